use Rattle.std.proofs.Common.{◌≡◌, ℕ, List, drop}
use Rattle.std.specs.Prelude.{◌||◌}
use Rattle.t1_font.specs.Metrics.{has_metrics}
use Rattle.t1_font.specs.Names.{is_name_kept}
use Rattle.t1_font.proofs.kern.names_of.Given as goal

-- the names so far, or those of the glyphs that are left
abbrev pub invariant-loop-glyph : goal.invariant-loop-glyph
invariant-loop-glyph l = (g : List ℕ) → (is_name_kept l.names.keys g || has_metrics (drop l.glyph-index l.metrics) g) ≡ has_metrics l.metrics g
