use Rattle.t1_afm.proofs.Convex.{wide_sum}
use Rattle.t1_afm.proofs.ratio.WeightedPair.sum_num.Goals as goal

pub returns-clause-value : goal.returns-clause-value
returns-clause-value c =
    wide_sum c.widened-left.result c.widened-right.result _ _ c.widened-left.ensures.value c.widened-right.ensures.value c.widened-left.ensures.size c.widened-right.ensures.size
