use Rattle.t1_rerun.proofs.Building.{AreBuilt}
use Rattle.t1_rerun.proofs.opening.insert_glyphs.Given as goal

-- the records so far
abbrev pub invariant-loop-glyph : goal.invariant-loop-glyph
invariant-loop-glyph l = AreBuilt l.fn.records l.fn.bodies.entries l.bodies.entries l.fn.runs l.runs l.metrics l.glyph-index l.records
