use Rattle.std.proofs.Common.{◌∙◌, ap, length, map, arith}
use Rattle.std.proofs.lemmas.List.{length-map}
use Rattle.t1_parts.specs.Counts.{raised_item}
use Rattle.t1_parts.specs.Items.{items_in}
use Rattle.t1_parts.proofs.StretchLaws.{all_raised}
use Rattle.t1_parts.proofs.block.Block.raise_counts.Goals as goal

pub invariant_of-self : goal.invariant_of-self
invariant_of-self c =
    let ss = c.self.inside.stretches in
    let made = all_raised c.args.subrs c.args.glyphs ss _ (ap length c.as_slice-end.ensures) c.raise_counts.ensures in
    let size = ap length made in
    let same = length-map (items_in ss) (raised_item c.args.subrs c.args.glyphs) in
    (omega (arith, size, same, c.self.invariant.0), omega (arith, size, same, c.self.invariant.1))

pub returns : goal.returns
returns c =
    let ss = c.self.inside.stretches in
    all_raised c.args.subrs c.args.glyphs ss _ (ap length c.as_slice-end.ensures) c.raise_counts.ensures
    ∙ ap (map (raised_item c.args.subrs c.args.glyphs)) c.self.view_is
