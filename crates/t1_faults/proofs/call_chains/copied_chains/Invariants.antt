use Rattle.std.proofs.Common.{◌≡◌, take}
use Rattle.t1_faults.proofs.call_chains.copied_chains.Given as goal

-- the chains so far
abbrev pub invariant-loop-chain : goal.invariant-loop-chain
invariant-loop-chain l = l.copies.items ≡ take l.chain-index l.chains
