use Rattle.std.proofs.Common.{◌≡◌, false, is_some, rules}
use Rattle.t1_font.specs.KeptBodies.{plain_bodies}
use Rattle.t1_font.specs.Runs.{drawing_in}
use Rattle.t1_faults.specs.Judging.{first_fault_of_run}
use Rattle.t1_faults.proofs.FailureLaws.{no_failure}
use Rattle.t1_faults.proofs.failing.failure_at.Goals as goal

pub returns-then-not-has_failed : goal.returns-then-not-has_failed
returns-then-not-has_failed c =
    let runs = c.args.runs.now in
    let none : is_some (first_fault_of_run (drawing_in runs.runs c.args.name.now)) ≡ false = search rules in
    no_failure (drawing_in runs.runs) (plain_bodies runs.bodies) c.args.name.now runs.own none
