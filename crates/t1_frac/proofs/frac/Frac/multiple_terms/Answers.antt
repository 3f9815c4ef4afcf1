use Rattle.t1_frac.proofs.Coordinates.{multiple_sum}
use Rattle.t1_frac.proofs.frac.Frac.multiple_terms.Goals as goal

pub returns-clause-sum : goal.returns-clause-sum
returns-clause-sum c =
    multiple_sum _ _ _ _ c.scaled-right.result c.self.view_is c.other.view_is c.requires.left_short c.requires.right_short c.requires.multiple c.self.invariant.0 c.other.invariant.0 c.scaled-right.ensures.value c.scaled-right.ensures.size
