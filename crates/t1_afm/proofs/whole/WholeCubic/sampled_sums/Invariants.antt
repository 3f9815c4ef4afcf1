use Rattle.t1_afm.proofs.Sampling.{AreSummed}
use Rattle.t1_afm.proofs.whole.WholeCubic.sampled_sums.Given as goal

abbrev pub invariant-loop-k : goal.invariant-loop-k
invariant-loop-k l = AreSummed l.fn.self l._k l.sample l.least l.greatest
