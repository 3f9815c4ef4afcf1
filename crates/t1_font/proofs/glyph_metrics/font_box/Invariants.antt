use Rattle.std.proofs.Common.{◌≡◌, map, drop, None}
use Rattle.std.specs.Prelude.{fold}
use Rattle.t1_afm.specs.Box.{unite}
use Rattle.t1_font.proofs.glyph_metrics.font_box.Given as goal

-- the box so far, with the boxes that are left
abbrev pub invariant-loop-glyph : goal.invariant-loop-glyph
invariant-loop-glyph l = fold unite l.extent (map (λ glyph. glyph.bbox) (drop l.glyph-index l.metrics)) ≡ fold unite None (map (λ glyph. glyph.bbox) l.metrics)
