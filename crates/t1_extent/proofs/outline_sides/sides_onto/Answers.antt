use Rattle.std.proofs.Common.{rules, arith, Some, ◌<◌, length}
use Rattle.t1_extent.specs.Ends.{ends_of, inner_of}
use Rattle.t1_extent.specs.Sides.{whole_extremes}
use Rattle.t1_extent.proofs.Bending.{ends_numbers}
use Rattle.t1_extent.proofs.Cornering.{inner_numbers}
use Rattle.t1_extent.proofs.Flags.{whole_next}
use Rattle.t1_extent.proofs.Onward.{whole_lowest}
use Rattle.t1_extent.proofs.Slices.{extremes-onto}
use Rattle.t1_extent.proofs.outline_sides.sides_onto.Goals as goal

pub loop-segment-preserved : goal.loop-segment-preserved
loop-segment-preserved c =
    let xs = c.args.segments.now in
    let i = c.loop-segment.segment-index in
    let inside : i < length xs = omega arith in
    record {
      whole = whole_next xs i c.segment-item.result inside c.segment-item.is c.loop-segment.invariant.whole (search rules);
      ends = extremes-onto ends_of ends_numbers (Some (whole_extremes c.args.ends_before.now)) (whole_lowest c.args.ends_before.now) xs i c.segment-item.result _ _ inside c.requires c.segment-item.is
          c.loop-segment.invariant.ends c.with_ends-ends.ensures;
      inner = extremes-onto inner_of inner_numbers (Some (whole_extremes c.args.inner_before.now)) (whole_lowest c.args.inner_before.now) xs i c.segment-item.result _ _ inside c.requires c.segment-item.is
          c.loop-segment.invariant.inner c.with_inner-inner.ensures;
    }
