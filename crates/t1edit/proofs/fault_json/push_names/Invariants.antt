use Rattle.std.proofs.Common.{◌≡◌, ◌++◌, map, take}
use Rattle.serde_json.specs.View.{view}
use Rattle.t1edit.specs.FaultJson.{text_data}
use Rattle.t1edit.proofs.fault_json.push_names.Given as goal

-- the names so far, after what was there
abbrev pub invariant-loop-name : goal.invariant-loop-name
invariant-loop-name l = map view l.list.items ≡ map view l.fn.list.items ++ map text_data (take l.name-index l.names)
