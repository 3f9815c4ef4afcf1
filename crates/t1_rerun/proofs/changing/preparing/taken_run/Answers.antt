use Rattle.std.proofs.Common.{◌∙◌, ap, sym}
use Rattle.t1_font.proofs.Keeping.{lookup-taken}
use Rattle.t1_rerun.specs.Steps.{new_run_of}
use Rattle.t1_rerun.proofs.Preparing.{found-by-name, run-taken}
use Rattle.t1_rerun.proofs.changing.preparing.taken_run.Goals as goal

pub returns-clause-run : goal.returns-clause-run
returns-clause-run c = ap new_run_of c.swap_remove.ensures.value ∙ sym (found-by-name c.args.runs.now.entries c.args.name.now)

pub returns-clause-others : goal.returns-clause-others
returns-clause-others c = λ g.
    run-taken c.args.name.now c.args.runs.now.entries c.swap_remove.new.self.entries g
    (lookup-taken (λ k. k.items) c.args.runs.now.entries c.swap_remove.new.self.entries c.args.name.now c.swap_remove.ensures.updates.0 g)
