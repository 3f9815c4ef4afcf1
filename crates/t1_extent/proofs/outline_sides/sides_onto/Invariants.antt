use Rattle.std.proofs.Common.{◌≡◌, Some, take, true}
use Rattle.t1_extent.specs.Ends.{ends as ends_of_all, inner as inner_of_all}
use Rattle.t1_extent.specs.Extremes.{extremes, is_whole_outline, unite_extremes}
use Rattle.t1_extent.specs.Sides.{whole_extremes}
use Rattle.t1_extent.proofs.outline_sides.sides_onto.Given as goal

-- the segments so far are whole, and their extremes with those before
abbrev pub invariant-loop-segment : goal.invariant-loop-segment
invariant-loop-segment l = record {
  whole : is_whole_outline (take l.segment-index l.segments) ≡ true;
  ends : Some (whole_extremes l.ends) ≡ unite_extremes (Some (whole_extremes l.ends_before)) (extremes (ends_of_all (take l.segment-index l.segments)));
  inner : Some (whole_extremes l.inner) ≡ unite_extremes (Some (whole_extremes l.inner_before)) (extremes (inner_of_all (take l.segment-index l.segments)));
}
