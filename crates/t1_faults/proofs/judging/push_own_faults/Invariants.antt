use Rattle.std.proofs.Common.{◌≡◌, ◌++◌, map, take}
use Rattle.std.specs.Prelude.{flat_map}
use Rattle.t1_faults.specs.CodeForms.{entry_in_text}
use Rattle.t1_faults.specs.GlyphRuns.{faults_kept_at, own_kept}
use Rattle.t1_faults.specs.Judging.{entry_faults}
use Rattle.t1_faults.proofs.judging.push_own_faults.Given as goal

-- the faults of the entries so far
abbrev pub invariant-loop-entry : goal.invariant-loop-entry
invariant-loop-entry l = l.found.items ≡ l.fn.found.items ++ flat_map (entry_faults (own_kept l.met.own.entries) (faults_kept_at l.met.in_subrs.entries)) (map entry_in_text (take l.entry-index l.entries))
