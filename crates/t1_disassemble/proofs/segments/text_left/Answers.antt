use Rattle.std.proofs.Common.{◌≡◌, ◌≤◌, ◌==◌, ◌++◌, ℕ, List, length, false, Ok, Some, sym, ap, ◌∙◌, rules}
use Rattle.t1_disassemble.specs.SegmentsFound.{found_segment}
use Rattle.t1_disassemble.specs.SegmentsRead.{placed_segment, segments_of, parts_onto}
use Rattle.t1_disassemble.proofs.InPlaceLaws.{tailed, tail_more, behind_more}
use Rattle.t1_disassemble.proofs.segments.text_left.Goals as goal

pub loop-tail-preserved : goal.loop-tail-preserved
loop-tail-preserved c =
    let found = c.in-Some.found in
    let i = c.loop-tail.invariant in
    let here : placed_segment c.args.total c.loop-tail.rest.now ≡ Ok (Some (found_segment found)) = search rules in
    let kind : (found.kind == 2) ≡ false = search rules in
    let items : c.extend_from_slice.new.self.items ≡ c.loop-tail.tail.items ++ found.bytes.now = search rules in
    let within : length found.after.now ≤ c.args.total = search rules in
    record {
      parts = λ clear coded some.
          ap (λ (l : List ℕ). parts_onto (tailed clear coded l) (segments_of c.args.total found.after.now)) items
          ∙ sym (tail_more clear coded c.loop-tail.tail.items c.args.total c.loop-tail.rest.now (found_segment found).0 found.after.now some here kind)
          ∙ i.parts clear coded some;
      behind = λ are. i.behind (behind_more c.args.total c.loop-tail.rest.now (found_segment found).0 found.after.now here kind are);
      within = within;
    }
