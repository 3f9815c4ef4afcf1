use Rattle.t1_round_trip.proofs.AgainLaws.{bare_again}
use Rattle.t1_round_trip.proofs.laws.raw_file_is_assembled_again.Goals as goal

pub returns : goal.returns
returns c = bare_again
