use Rattle.std.proofs.Common.{◌≡◌, map, drop}
use Rattle.t1_font.specs.MetricsByRuns.{glyph_metrics_among}
use Rattle.t1_font.proofs.Gathering.{put_after}
use Rattle.t1_font.proofs.glyph_metrics.glyph_metrics_of.Given as goal

-- what was reported, in front of what is reported of the glyphs that are left
abbrev pub invariant-loop-name : goal.invariant-loop-name
invariant-loop-name g l =
    put_after l.metrics.items (glyph_metrics_among (g.R.KeptRuns.drawn l.runs) (map (λ name. name.now) (drop l.name-index l.names))) ≡ glyph_metrics_among (g.R.KeptRuns.drawn l.runs) (map (λ name. name.now) l.names)
