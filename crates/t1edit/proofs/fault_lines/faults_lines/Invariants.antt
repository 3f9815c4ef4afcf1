use Rattle.std.proofs.Common.{◌≡◌, take}
use Rattle.t1_text.specs.Lines.{lines}
use Rattle.t1edit.specs.FaultLines.{faults_lines}
use Rattle.t1edit.proofs.fault_lines.faults_lines.Given as goal

-- the lines of the faults so far, and all lines of the source
abbrev pub invariant-loop-fault : goal.invariant-loop-fault
invariant-loop-fault l = (l.text.items ≡ faults_lines l.path l.sections (lines l.source) (take l.fault-index l.faults)) × (l.lines ≡ lines l.source)
