use Rattle.std.proofs.Common.{◌≡◌, ◌≤◌, ◌-◌, [], length, subst, rules, arith}
use Rattle.std.specs.List.{slice_index_or}
use Rattle.t1_text.specs.Lines.{lines}
use Rattle.t1_faults.proofs.ReadingLaws.{leads_first, leads_on, leads_past, leads_there}
use Rattle.t1_faults.proofs.reading.line_of.Goals as goal

pub loop-turn-init : goal.loop-turn-init
loop-turn-init c = leads_first c.args.bytes.now

pub loop-turn-preserved : goal.loop-turn-preserved
loop-turn-preserved c =
    leads_on c.loop-turn._turn c.loop-turn.rest.now c.args.bytes.now c.first_line.result.0.now c.first_line.result.1.now c.loop-turn.invariant c.first_line.ensures.lines

pub returns-then-is_empty : goal.returns-then-is_empty
returns-then-is_empty c =
    let within : c.loop-turn._turn ≤ c.args.number - 1 = omega (arith, c.saturating_sub-turn-end.ensures) in
    let none : length c.loop-turn.rest.now ≡ 0 = search rules in
    leads_past c.loop-turn._turn (c.args.number - 1) c.loop-turn.rest.now c.args.bytes.now c.loop-turn.invariant within none

pub returns-then-is_empty-2 : goal.returns-then-is_empty-2
returns-then-is_empty-2 c =
    let within : c.loop-turn._turn ≤ c.args.number - 1 = omega (arith, c.saturating_sub-turn-end.ensures) in
    let none : length c.loop-turn.rest.now ≡ 0 = search rules in
    leads_past c.loop-turn._turn (c.args.number - 1) c.loop-turn.rest.now c.args.bytes.now c.loop-turn.invariant within none

pub returns : goal.returns
returns c =
    let same : c.loop-turn._turn ≡ c.args.number - 1 = omega (arith, c.saturating_sub-turn-end.ensures) in
    subst (λ m. c.first_line-2.result.0.now ≡ slice_index_or (lines c.args.bytes.now) m []) same
    (leads_there c.loop-turn._turn c.loop-turn.rest.now c.args.bytes.now c.first_line-2.result.0.now c.first_line-2.result.1.now c.loop-turn.invariant c.first_line-2.ensures.lines)
