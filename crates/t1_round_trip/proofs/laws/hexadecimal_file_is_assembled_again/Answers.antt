use Rattle.t1_round_trip.proofs.AgainLaws.{hexadecimal_again}
use Rattle.t1_round_trip.proofs.laws.hexadecimal_file_is_assembled_again.Goals as goal

pub returns : goal.returns
returns c = hexadecimal_again
