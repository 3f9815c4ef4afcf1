use Rattle.std.proofs.Common.{◌≡◌, ◌++◌, take}
use Rattle.t1_fault_texts.specs.Rows.{rows}
use Rattle.t1_fault_texts.proofs.rows.push_rows.Given as goal

-- the lines of the faults so far, after what was there
abbrev pub invariant-loop-fault : goal.invariant-loop-fault
invariant-loop-fault l = l.text.items ≡ l.fn.text.items ++ rows l.name (take l.fault-index l.faults)
