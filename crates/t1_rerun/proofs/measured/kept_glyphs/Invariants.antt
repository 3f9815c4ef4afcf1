use Rattle.t1_rerun.proofs.Reporting.{IsReporting}
use Rattle.t1_rerun.proofs.measured.kept_glyphs.Given as goal

-- what was reported of the records so far
abbrev pub invariant-loop-at : goal.invariant-loop-at
invariant-loop-at l = IsReporting l.records.glyphs.entries l.at l.metrics.items
