use Rattle.std.proofs.Common.{◌∙◌, ap, map, arith}
use Rattle.std.proofs.lemmas.List.{take_all}
use Rattle.t1_faults.specs.GlyphRuns.{own_kept, seen_run}
use Rattle.t1_faults.specs.Met.{own_fault}
use Rattle.t1_faults.proofs.KeptLaws.{own_next}
use Rattle.t1_faults.proofs.met.own_faults.Goals as goal

pub loop-run-init : goal.loop-run-init
loop-run-init c = λ g. ap (λ es. own_kept es g) c.new-faults.ensures.empty

pub loop-run-preserved : goal.loop-run-preserved
loop-run-preserved c = λ g.
    own_next c.args.failed.now c.loop-run.run-index c.run-item.result g (own_kept c.loop-run.faults.entries g) (own_kept c.add_own_fault.new.faults.entries g)
    (omega arith) c.run-item.is (c.in_ok-add_own_fault.ensures g) (c.loop-run.invariant g)

pub returns : goal.returns
returns c = λ g. c.loop-run.invariant g ∙ ap (λ runs. own_fault (map seen_run runs) g) (take_all c.loop-run.run-index c.args.failed.now (omega arith))
