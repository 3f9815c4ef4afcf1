use Rattle.std.proofs.Common.{◌∙◌, ap}
use Rattle.t1_run.specs.RunKeys.{has_number}
use Rattle.t1_faults.proofs.ToRunLaws.{number_inserted}
use Rattle.t1_faults.proofs.to_run.add_number.Goals as goal

pub returns : goal.returns
returns c = λ n. ap (λ keys. has_number keys n) c.in_ok-insert.ensures.keys ∙ number_inserted n c.args.number c.args.numbers.now.keys
