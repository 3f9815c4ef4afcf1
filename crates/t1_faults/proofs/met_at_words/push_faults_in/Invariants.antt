use Rattle.std.proofs.Common.{◌≡◌, ◌++◌, map, take}
use Rattle.t1_faults.specs.CodeForms.{entry_in_text}
use Rattle.t1_faults.specs.Found.{in_entry}
use Rattle.t1_faults.proofs.met_at_words.push_faults_in.Given as goal

-- the faults so far
abbrev pub invariant-loop-fault : goal.invariant-loop-fault
invariant-loop-fault l = l.found.items ≡ l.fn.found.items ++ map (in_entry (entry_in_text l.entry) l.placed) (take l.fault-index l.faults)
