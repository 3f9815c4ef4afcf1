use Rattle.std.proofs.Common.{◌≡◌, ◌<◌, ap, ◌∙◌, length, arith, rules}
use Rattle.t1_parts.proofs.StartLaws.{first_start, no_place, started_past, started_within, starts_length}
use Rattle.t1_parts.proofs.stretches.started_place.Goals as goal

pub returns-then-is_empty : goal.returns-then-is_empty
returns-then-is_empty c =
    let size = ap length c.requires.starts ∙ starts_length 0 c.args.stretches.now in
    let none : length c.args.starts.now ≡ 0 = search rules in
    no_place c.args.at c.args.stretches.now (omega (arith, none, size)) c.requires.within

pub last_start-index-requires-clause-first : goal.last_start-index-requires-clause-first
last_start-index-requires-clause-first c =
    let size = ap length c.requires.starts ∙ starts_length 0 c.args.stretches.now in
    let some : 0 < length c.args.starts.now = search rules in
    let first = first_start 0 c.args.starts.now c.args.stretches.now c.requires.starts (omega (arith, some, size)) in
    omega (arith, first)

pub offset_bounds-stretches-index : goal.offset_bounds-stretches-index
offset_bounds-stretches-index c =
    let size = ap length c.requires.starts ∙ starts_length 0 c.args.stretches.now in
    let here : c.last_start-index.result < length c.args.stretches.now = omega (arith, c.last_start-index.ensures.0, size) in
    search rules

pub bounds-stretches-index : goal.bounds-stretches-index
bounds-stretches-index c =
    let size = ap length c.requires.starts ∙ starts_length 0 c.args.stretches.now in
    omega (arith, c.last_start-index.ensures.0, size)

pub returns-then-offset-len : goal.returns-then-offset-len
returns-then-offset-len c =
    started_within c.args.at c.last_start-index.result c.args.starts.now c.args.stretches.now c.index-stretches-index.result c.requires.starts c.last_start-index.ensures c.index-stretches-index.is
    (omega (arith, c.if-offset-len.true, c.len.ensures.value))

pub returns : goal.returns
returns c =
    started_past c.args.at c.last_start-index.result c.args.starts.now c.args.stretches.now c.index-stretches-index.result c.requires.starts c.last_start-index.ensures c.index-stretches-index.is c.requires.within
    (omega (arith, c.if-offset-len.false, c.len.ensures.value))
