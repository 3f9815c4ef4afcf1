use Rattle.t1_afm.proofs.Convex.{weights_small}
use Rattle.t1_afm.proofs.cubic.Cubic.terms_at.Goals as goal

pub of-front-requires-clause-right : goal.of-front-requires-clause-right
of-front-requires-clause-right c = (weights_small c.args.k c.requires).1

pub of-back-requires-clause-left : goal.of-back-requires-clause-left
of-back-requires-clause-left c = (weights_small c.args.k c.requires).2
