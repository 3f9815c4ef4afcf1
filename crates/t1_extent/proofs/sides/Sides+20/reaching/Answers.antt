use Rattle.std.proofs.Common.{◌^◌, ap, sym, ◌∙◌, arith}
use Rattle.t1_extent.specs.Sides.{in_lowest_terms}
use Rattle.t1_extent.proofs.Folding.{same_extremes}
use Rattle.t1_extent.proofs.Siding.{least_read, greatest_read}
use Rattle.t1_extent.proofs.Sums.{lesser_over, greater_over}
use Rattle.t1_extent.proofs.sides.Sides+20.reaching.Goals as goal

pub invariant_of-result : goal.invariant_of-result
invariant_of-result c =
    let s = c.args.self.now in
    let o = c.args.other.now in
    record {
      left_size = (least_read (2 ^ 20) c.min.result s.left o.left (omega arith) c.min.ensures.value s.left_size o.left_size).1;
      bottom_size = (least_read (2 ^ 20) c.min-2.result s.bottom o.bottom (omega arith) c.min-2.ensures.value s.bottom_size o.bottom_size).1;
      right_size = (greatest_read (2 ^ 20) c.max.result s.right o.right (omega arith) c.max.ensures.value s.right_size o.right_size).1;
      top_size = (greatest_read (2 ^ 20) c.max-2.result s.top o.top (omega arith) c.max-2.ensures.value s.top_size o.top_size).1;
    }

pub returns : goal.returns
returns c =
    let s = c.args.self.now in
    let o = c.args.other.now in
    same_extremes _ _ _ _ _ _ _ _
    (ap (in_lowest_terms 1) (least_read (2 ^ 20) c.min.result s.left o.left (omega arith) c.min.ensures.value s.left_size o.left_size).0 ∙ sym (lesser_over 1 s.left o.left (omega arith)))
    (ap (in_lowest_terms 1) (least_read (2 ^ 20) c.min-2.result s.bottom o.bottom (omega arith) c.min-2.ensures.value s.bottom_size o.bottom_size).0 ∙ sym (lesser_over 1 s.bottom o.bottom (omega arith)))
    (ap (in_lowest_terms 1) (greatest_read (2 ^ 20) c.max.result s.right o.right (omega arith) c.max.ensures.value s.right_size o.right_size).0 ∙ sym (greater_over 1 s.right o.right (omega arith)))
    (ap (in_lowest_terms 1) (greatest_read (2 ^ 20) c.max-2.result s.top o.top (omega arith) c.max-2.ensures.value s.top_size o.top_size).0 ∙ sym (greater_over 1 s.top o.top (omega arith)))
