use Rattle.std.proofs.Common.{◌≡◌, ℕ, ◌*◌, ◌≤◌}
use Rattle.t1_frac.proofs.terms.Terms.without.Given as goal

-- the same number, no finer
abbrev pub invariant-loop-terms : goal.invariant-loop-terms
invariant-loop-terms l =
    ((n d : ℕ) → l.fn.self.num * d ≡ n * (l.fn.self.coprime * l.fn.self.rest) → l.terms.num * d ≡ n * (l.terms.coprime * l.terms.rest))
    × (l.terms.coprime * l.terms.rest ≤ l.fn.self.coprime * l.fn.self.rest)

abbrev pub decreases-loop-terms : goal.decreases-loop-terms
decreases-loop-terms l = l.terms.rest
