use Rattle.t1_round_trip.proofs.AgainLaws.{file_again}
use Rattle.t1_round_trip.proofs.laws.file_is_assembled_again.Goals as goal

pub returns : goal.returns
returns c = file_again
