use Rattle.t1_frac.proofs.WholeSums.{whole_sum_read}
use Rattle.t1_frac.proofs.frac.Frac.whole_sum_num.Goals as goal

pub returns-clause-sum : goal.returns-clause-sum
returns-clause-sum c =
    (whole_sum_read _ _ _ _ c.scaled-right.result c.self.view_is c.other.view_is c.requires.left_short c.requires.right_short c.scaled-right.ensures.value c.scaled-right.ensures.size c.self.invariant.0 c.requires.whole c.self.invariant.1).sum

pub returns-clause-coprime : goal.returns-clause-coprime
returns-clause-coprime c =
    (whole_sum_read _ _ _ _ c.scaled-right.result c.self.view_is c.other.view_is c.requires.left_short c.requires.right_short c.scaled-right.ensures.value c.scaled-right.ensures.size c.self.invariant.0 c.requires.whole c.self.invariant.1).coprime
