use Rattle.std.proofs.Common.{◌≡◌, map, take}
use Rattle.t1_faults.specs.CodeForms.{entry_in_text}
use Rattle.t1_faults.specs.GlyphRuns.{failures_of, seen_run}
use Rattle.t1_faults.specs.Met.{failed_runs}
use Rattle.t1_faults.proofs.failing.failed_runs.Given as goal

-- the failed runs so far
abbrev pub invariant-loop-entry : goal.invariant-loop-entry
invariant-loop-entry l = map seen_run l.failed.items ≡ failed_runs (failures_of l.runs) (map entry_in_text (take l.entry-index l.entries))
