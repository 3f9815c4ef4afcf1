use Rattle.std.proofs.Common.{◌≤◌, ap, sym, subst, map, take, drop, length, ◌∙◌, arith}
use Rattle.t1_buckets.specs.Buckets.{shared_joined}
use Rattle.t1_parts.specs.Counts.{raised_item}
use Rattle.t1_parts.specs.EntryKeys.{AreSectionsBefore}
use Rattle.t1_parts.proofs.BlockLaws.{in_two}
use Rattle.t1_parts.proofs.SectionEndLaws.{raised_front}
use Rattle.t1_parts.proofs.blocks.Blocks.raise_counts.Goals as goal

pub returns-clause-ok : goal.returns-clause-ok
returns-clause-ok c =
    let bs = c.in_ok-blocks.blocks.items in
    let n = c.blocks_through-through.result in
    let whole = c.in_ok-blocks.ensures ∙ ap shared_joined c.as_slice.ensures.value ∙ c.self.view_is in
    let before = subst (AreSectionsBefore c.args.end) (sym whole) c.requires.before in
    let size = ap length whole in
    let covered : c.args.end ≤ length (shared_joined (take n bs)) =
    subst (λ xs. c.args.end ≤ length (shared_joined (take n xs))) c.as_slice-2.ensures.value (c.blocks_through-through.ensures.covered (omega (arith, size, before.0, c.requires.len))) in
    raised_front c.args.subrs c.args.glyphs c.args.end (shared_joined bs) (shared_joined (take n bs)) (shared_joined (drop n bs)) _ (in_two n bs) before covered c.in_ok-raise_counts.ensures ∙ ap (map (raised_item c.args.subrs c.args.glyphs)) whole
