use Rattle.std.proofs.Common.{◌≡◌, ◌++◌, map, take}
use Rattle.serde_json.specs.View.{view}
use Rattle.t1edit.specs.FaultJson.{subr_data}
use Rattle.t1edit.proofs.fault_json.push_subrs.Given as goal

-- the Subrs so far, after what was there
abbrev pub invariant-loop-subr : goal.invariant-loop-subr
invariant-loop-subr l = map view l.list.items ≡ map view l.fn.list.items ++ map subr_data (take l.subr-index l.subrs)
