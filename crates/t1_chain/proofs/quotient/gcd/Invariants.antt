use Rattle.std.proofs.Common.{ℕ}
use Rattle.std.specs.Int.{IsGcd}
use Rattle.t1_chain.proofs.quotient.gcd.Given as goal

-- the pair of the turn has the divisors of the pair handed in
abbrev pub invariant-loop-y : goal.invariant-loop-y
invariant-loop-y l = (g : ℕ) → IsGcd l.x l.y g → IsGcd l.fn.a l.fn.b g

abbrev pub decreases-loop-y : goal.decreases-loop-y
decreases-loop-y l = l.y
