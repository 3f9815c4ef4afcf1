use Rattle.std.proofs.Common.{rules}
use Rattle.t1_run.specs.Composite.{IsWithin}
use Rattle.t1_extent.proofs.Onward.{ends_onward, corners_onward}
use Rattle.t1_extent.proofs.Slices.{all_by}
use Rattle.t1_extent.proofs.outline_sides.outline_sides.Goals as goal

pub returns : goal.returns
returns c =
    let xs = c.args.segments.now in
    let within = all_by IsWithin xs c.requires in (
      search rules,
      ends_onward c.in-Some.first.now c.in-Some.rest.now xs _ _ (search rules) within c.segment_ends-ends.ensures c.in_ok-sides_onto.ensures.ends,
      corners_onward c.in-Some.first.now c.in-Some.rest.now xs _ _ _ (search rules) within c.segment_ends-ends.ensures c.with_inner-inner.ensures c.in_ok-sides_onto.ensures.corners,
    )
