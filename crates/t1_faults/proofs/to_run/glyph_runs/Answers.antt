use Rattle.t1_font.specs.KeptBodies.{plain_bodies}
use Rattle.t1_run.specs.RunKeys.{has_number}
use Rattle.t1_faults.proofs.FailureLaws.{failures_same}
use Rattle.t1_faults.proofs.to_run.glyph_runs.Goals as goal

pub returns-clause-failures : goal.returns-clause-failures
returns-clause-failures c =
    failures_same (has_number c.in_ok-faulty.faulty.keys) (plain_bodies c.in_ok-bodies.bodies) c.args.items.now c.in_ok-bodies.ensures c.in_ok-faulty.ensures
