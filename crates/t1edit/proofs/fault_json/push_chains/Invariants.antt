use Rattle.std.proofs.Common.{◌≡◌, ◌++◌, map, take}
use Rattle.serde_json.specs.View.{view}
use Rattle.t1edit.specs.FaultJson.{chain_data}
use Rattle.t1edit.proofs.fault_json.push_chains.Given as goal

-- the chains so far, after what was there
abbrev pub invariant-loop-chain : goal.invariant-loop-chain
invariant-loop-chain l = map view l.list.items ≡ map view l.fn.list.items ++ map chain_data (take l.chain-index l.chains)
