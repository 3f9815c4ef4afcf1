use Rattle.std.proofs.Common.{◌≡◌, filter, length}
use Rattle.t1_parts.specs.Stretches.{stands_alone}
use Rattle.t1_parts.proofs.alone_items.next_alone.Given as goal

-- none of the items passed stands alone
abbrev pub invariant-loop-stretch : goal.invariant-loop-stretch
invariant-loop-stretch l = filter stands_alone l.stretches ≡ filter stands_alone l.initial.stretches

abbrev pub decreases-loop-stretch : goal.decreases-loop-stretch
decreases-loop-stretch l = length l.stretches
