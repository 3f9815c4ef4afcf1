use Rattle.std.proofs.Common.{◌≡◌, take}
use Rattle.t1_parts.proofs.stretches.copied_stretches.Given as goal

-- the stretches copied so far
abbrev pub invariant-loop-stretch : goal.invariant-loop-stretch
invariant-loop-stretch l = l.copies.items ≡ take l.stretch-index l.stretches
