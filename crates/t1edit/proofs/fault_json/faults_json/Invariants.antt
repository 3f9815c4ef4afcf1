use Rattle.std.proofs.Common.{◌≡◌, take}
use Rattle.t1edit.specs.FaultJson.{faults_json}
use Rattle.t1edit.proofs.fault_json.faults_json.Given as goal

-- the faults so far
abbrev pub invariant-loop-fault : goal.invariant-loop-fault
invariant-loop-fault l = l.text.items ≡ faults_json l.path (take l.fault-index l.faults)
