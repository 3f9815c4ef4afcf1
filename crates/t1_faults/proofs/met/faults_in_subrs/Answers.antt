use Rattle.std.proofs.Common.{◌∙◌, ap, map, arith}
use Rattle.std.proofs.lemmas.List.{take_all}
use Rattle.t1_faults.specs.GlyphRuns.{faults_kept_at, seen_run}
use Rattle.t1_faults.specs.Met.{faults_at}
use Rattle.t1_faults.proofs.KeptLaws.{at_next}
use Rattle.t1_faults.proofs.met.faults_in_subrs.Goals as goal

pub loop-run-init : goal.loop-run-init
loop-run-init c = λ n k. ap (λ es. faults_kept_at es n k) c.new-met.ensures.empty

pub loop-run-preserved : goal.loop-run-preserved
loop-run-preserved c = λ n k.
    at_next c.args.failed.now c.loop-run.run-index c.run-item.result n k (faults_kept_at c.loop-run.met.entries n k) (faults_kept_at c.add_in_subr.new.met.entries n k)
    (omega arith) c.run-item.is (c.in_ok-add_in_subr.ensures n k) (c.loop-run.invariant n k)

pub returns : goal.returns
returns c = λ n k. c.loop-run.invariant n k ∙ ap (λ runs. faults_at (map seen_run runs) n k) (take_all c.loop-run.run-index c.args.failed.now (omega arith))
