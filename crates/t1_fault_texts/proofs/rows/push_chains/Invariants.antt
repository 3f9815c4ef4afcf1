use Rattle.std.proofs.Common.{◌≡◌, ◌++◌, flat_map, take}
use Rattle.t1_fault_texts.specs.Rows.{chain_field}
use Rattle.t1_fault_texts.proofs.rows.push_chains.Given as goal

-- those so far, after what was there
abbrev pub invariant-loop-chain : goal.invariant-loop-chain
invariant-loop-chain l = l.text.items ≡ l.fn.text.items ++ flat_map chain_field (take l.chain-index l.chains)
