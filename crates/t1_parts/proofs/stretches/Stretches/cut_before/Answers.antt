use Rattle.std.proofs.Common.{◌<◌, ◌∙◌, ap, length, arith}
use Rattle.std.specs.List.{slice_index_or}
use Rattle.t1_parts.specs.declared.stretch.Stretch.TheVariants.{Lines}
use Rattle.t1_parts.proofs.StretchLaws.{cut_there, alone_there}
use Rattle.t1_parts.proofs.stretches.Stretches.cut_before.Goals as goal

pub returns-in_err-split-clause-still : goal.returns-in_err-split-clause-still
returns-in_err-split-clause-still c within alone =
    let ss = c.args.self.now in
    let p = c.place_of-index.result in
    let s = c.index-stretch.result.now in
    let view = ap length c.self.view_is in
    let here : p.0 < length ss = omega (arith, c.place_of-index.ensures.0, view, c.len.ensures, c.if-index-len.false) in
    let is = c.index-stretch.ensures ∙ ap (λ xs. slice_index_or xs p.0 s) c.self.view_is in
    absurd (alone_there c.args.at ss p s here is c.place_of-index.ensures c.in-Some.ensures.2 (λ k d inside more. c.len-len.ensures.silent k d (omega (arith, inside, c.len-len.ensures.value)) (omega (arith, more, c.len-len.ensures.value))) alone)

pub returns-clause-same : goal.returns-clause-same
returns-clause-same c =
    let ss = c.args.self.now in
    let p = c.place_of-index.result in
    let s = c.index-stretch.result.now in
    let view = ap length c.self.view_is in
    let here : p.0 < length ss = omega (arith, c.place_of-index.ensures.0, view, c.len.ensures, c.if-index-len.false) in
    let is = c.index-stretch.ensures ∙ ap (λ xs. slice_index_or xs p.0 s) c.self.view_is in
    (cut_there c.args.at ss c.split.new.self p s (Lines c.in-Some.front) (Lines c.in-Some.back) c.place_of-index.ensures here is c.in-Some.ensures.0 c.in-Some.ensures.1 c.in_ok-split.ensures.ok).0

pub returns-clause-before : goal.returns-clause-before
returns-clause-before c =
    let ss = c.args.self.now in
    let p = c.place_of-index.result in
    let s = c.index-stretch.result.now in
    let view = ap length c.self.view_is in
    let here : p.0 < length ss = omega (arith, c.place_of-index.ensures.0, view, c.len.ensures, c.if-index-len.false) in
    let is = c.index-stretch.ensures ∙ ap (λ xs. slice_index_or xs p.0 s) c.self.view_is in
    (cut_there c.args.at ss c.split.new.self p s (Lines c.in-Some.front) (Lines c.in-Some.back) c.place_of-index.ensures here is c.in-Some.ensures.0 c.in-Some.ensures.1 c.in_ok-split.ensures.ok).1
