use Rattle.std.proofs.Common.{◌∙◌, ◌++◌, ◌+◌, ap, drop, arith}
use Rattle.t1_font.specs.Metrics.{composite_data, composites}
use Rattle.t1_font.proofs.Naming.{gives-none, gives-one}
use Rattle.t1_font.proofs.composites.composite_metrics.Goals as goal

pub loop-glyph-preserved-in_default : goal.loop-glyph-preserved-in_default
loop-glyph-preserved-in_default c =
    gives-none composite_data c.loop-glyph.found.items c.args.metrics.now c.loop-glyph.glyph-index c.glyph-item.result (omega arith) c.glyph-item.is c.in_default.ensures
    ∙ c.loop-glyph.invariant

pub loop-glyph-preserved : goal.loop-glyph-preserved
loop-glyph-preserved c =
    ap (λ items. items ++ composites (drop (c.loop-glyph.glyph-index + 1) c.args.metrics.now)) c.in_ok-push.ensures.items
    ∙ gives-one composite_data c.loop-glyph.found.items c.args.metrics.now c.loop-glyph.glyph-index c.glyph-item.result c.in-Some.metric (omega arith) c.glyph-item.is c.in-Some.ensures
    ∙ c.loop-glyph.invariant
