use Rattle.t1_afm.proofs.Denominators.{widened_over}
use Rattle.t1_afm.proofs.common.numerator_over.Goals as goal

pub returns-clause-same : goal.returns-clause-same
returns-clause-same c =
    widened_over c.args.a.now c.den.result c.num-2.result c.widened.result c.unsigned_abs-own.result c.args.den c.if_small-2.result c.requires.a c.den.ensures.value c.unsigned_abs-own.ensures.value c.if-den-own-ne0.false
    c.num-2.ensures c.widened.ensures.value c.widened.ensures.size c.if_small-2.ensures.same
