use Rattle.std.proofs.Common.{ℕ, List, Result, subst, sym}
use Rattle.t1_frac.specs.declared.fault.Fault.{Fault}
use Rattle.t1_session.specs.Delivery.{Delivers}
use Rattle.t1_session.proofs.Delivering.{metrics_read}
use Rattle.t1_session.proofs.measuring.measure_source_by.Goals as goal

pub returns : goal.returns
returns g c =
    subst (λ (file : Result (List ℕ) Fault). Delivers g.W.Write.contents c.args.out.now c.write_metrics.new.out file c.write_metrics.result)
    (sym (metrics_read c.args.source.now c.args.pairs.now c.in_ok-source.source c.in_ok-pairs.pairs c.in_ok-source.ensures c.in_ok-pairs.ensures)) c.write_metrics.ensures
