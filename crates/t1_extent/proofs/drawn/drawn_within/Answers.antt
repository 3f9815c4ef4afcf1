use Rattle.std.proofs.Common.{◌∙◌, ap, Some}
use Rattle.t1_run.specs.Composite.{IsWithin}
use Rattle.t1_extent.specs.Extremes.{IsWholeSegment}
use Rattle.t1_extent.proofs.Bending.{drawn_is}
use Rattle.t1_extent.proofs.Slices.{all_by}
use Rattle.t1_extent.proofs.Squeezing.{squeezed}
use Rattle.t1_extent.proofs.drawn.drawn_within.Goals as goal

pub returns-then-are-clause-value : goal.returns-then-are-clause-value
returns-then-are-clause-value c =
    let xs = c.args.segments.now in
    squeezed _ _ _ xs (all_by IsWithin xs c.requires.within) (all_by IsWholeSegment xs c.requires.whole) c.requires.corners c.requires.ends
    (c.are.ensures.same c.if-are.true) c.extent.ensures.value

pub returns-clause-value : goal.returns-clause-value
returns-clause-value c =
    let xs = c.args.segments.now in
    drawn_is _ _ _ xs (all_by IsWithin xs c.requires.within) (all_by IsWholeSegment xs c.requires.whole) c.over_cube.ensures.value c.with_bends.ensures
    (ap Some c.numerators-ends.ensures ∙ c.requires.ends)
