use Rattle.std.proofs.Common.{◌≡◌, ◌++◌, drop}
use Rattle.t1_font.specs.Metrics.{composites}
use Rattle.t1_font.proofs.composites.composite_metrics.Given as goal

-- those so far, in front of those that are left
abbrev pub invariant-loop-glyph : goal.invariant-loop-glyph
invariant-loop-glyph l = l.found.items ++ composites (drop l.glyph-index l.metrics) ≡ composites l.metrics
