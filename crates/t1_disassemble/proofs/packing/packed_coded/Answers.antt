use Rattle.std.proofs.Common.{◌≡◌, [], List, ℕ, drop, length, sym, ap, ◌∙◌, subst, rules}
use Rattle.t1_disassemble.specs.Front.{past_spaces}
use Rattle.t1_disassemble.specs.Outcome.{GivesFont}
use Rattle.t1_disassemble.specs.SegmentsRead.{FontParts}
use Rattle.t1_disassemble.specs.SourceOnto.{source_onto}
use Rattle.t1_disassemble.proofs.BinaryLaws.{spaces_gone}
use Rattle.t1_disassemble.proofs.packing.packed_coded.Goals as goal

pub returns-then-is_empty-2 : goal.returns-then-is_empty-2
returns-then-is_empty-2 c =
    let coded = c.args.coded.now in
    let after = drop c.args.len c.args.clear.now in
    let parts : FontParts = record { clear = c.args.clear.now; coded = coded; tail = c.args.tail.now } in
    let empty : length c.past_spaces.result.now ≡ 0 = search rules in
    let none : length (past_spaces after) ≡ 0 = ap length (sym (c.past_spaces.ensures ∙ ap past_spaces c.past-after.ensures)) ∙ empty in
    subst (λ (l : List ℕ). GivesFont (λ text. text) c.packed_in_segments.result (source_onto [] parts l)) (sym (spaces_gone after coded none)) c.packed_in_segments.ensures
