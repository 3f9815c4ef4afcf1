use Rattle.std.proofs.Common.{◌∙◌, ap}
use Rattle.t1_run.specs.RunKeys.{has_number}
use Rattle.t1_measured_notes.proofs.Numbering.{number_put}
use Rattle.t1_measured_notes.proofs.entered.put_number.Goals as goal

pub returns : goal.returns
returns c = λ n. ap (λ ks. has_number ks n) c.in_ok-insert.ensures.keys ∙ number_put n c.args.number c.args.numbers.now.keys
