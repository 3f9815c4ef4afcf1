use Rattle.std.proofs.Common.{◌≡◌, ◌+◌, ◌≤◌, length}
use Rattle.t1_parts.specs.Header.{before_balance}
use Rattle.t1_parts.proofs.HeaderLaws.{balance_from}
use Rattle.t1_parts.proofs.header.before_balance.Given as goal

-- the bytes passed, and those before the balance in the rest
abbrev pub invariant-loop-byte : goal.invariant-loop-byte
invariant-loop-byte l =
    (l.count + balance_from l.escaped l.depth l.rest ≡ before_balance l.text)
    × (l.count + length l.rest ≡ length l.text)
    × (l.depth ≤ l.count)

abbrev pub decreases-loop-byte : goal.decreases-loop-byte
decreases-loop-byte l = length l.rest
