use Rattle.std.proofs.Common.{◌≡◌, ◌++◌, map, take}
use Rattle.std.specs.Prelude.{flat_map}
use Rattle.t1_font.specs.Runs.{drawing_in}
use Rattle.t1_faults.specs.CodeForms.{entry_in_text}
use Rattle.t1_faults.specs.Judging.{join_faults}
use Rattle.t1_faults.proofs.judging.push_join_faults.Given as goal

-- the faults of the entries so far
abbrev pub invariant-loop-entry : goal.invariant-loop-entry
invariant-loop-entry l = l.found.items ≡ l.fn.found.items ++ flat_map (join_faults (drawing_in l.runs)) (map entry_in_text (take l.entry-index l.entries))
