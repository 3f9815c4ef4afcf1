use Rattle.std.proofs.Common.{Bool, List, ℕ, Some, Option}
use Rattle.t1_extent.specs.Kept.{TracedRun}
use Rattle.t1_afm.specs.declared.bbox.BBox.{BBox}
use Rattle.t1_font.specs.declared.owned_key.OwnedKey.TheVariants as named
use Rattle.t1_cache.specs.Renewed.{reruns_by_name}
use Rattle.t1_cache.specs.Room.{count_at}
use Rattle.t1_rerun.specs.Steps.{entry_change, new_run, IsStepOf}
use Rattle.t1_rerun.proofs.Preparing.{if-ok, step-of}
use Rattle.t1_rerun.proofs.changing.preparing.step_of.Goals as goal

pub returns-in-Subr-clause-step : goal.returns-in-Subr-clause-step
returns-in-Subr-clause-step c =
    let run = new_run (reruns_by_name c.args.runs.now.entries) in
    if-ok
    (λ step. (run : List ℕ → Option (TracedRun × Option BBox)) (moved : Bool)
    → IsStepOf run (count_at c.args.counts.now) c.args.records.now (entry_change (named.Subr c.in-Subr.number) (Some c.in-Some.body) moved) step)
    (IsStepOf run (count_at c.args.counts.now) c.args.records.now c.args.change)
    c.subr_step.result c.subr_step.ensures.step
    (λ step is.
    step-of c.args.change (named.Subr c.in-Subr.number) c.in-Some.body run (count_at c.args.counts.now) c.args.records.now step c.in-Subr.is c.in-Some.is
    (is run c.args.change.moved))
