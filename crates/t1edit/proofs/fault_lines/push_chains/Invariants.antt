use Rattle.std.proofs.Common.{◌≡◌, ◌++◌, flat_map, take}
use Rattle.t1edit.specs.FaultLines.{chain_line}
use Rattle.t1edit.proofs.fault_lines.push_chains.Given as goal

-- the chains so far, after what was there
abbrev pub invariant-loop-chain : goal.invariant-loop-chain
invariant-loop-chain l = l.text.items ≡ l.fn.text.items ++ flat_map chain_line (take l.chain-index l.chains)
