use Rattle.t1_round_trip.proofs.Bridges.{pfa_again}
use Rattle.t1_round_trip.proofs.laws.hexadecimal_file_comes_back.Goals as goal

pub returns : goal.returns
returns c = pfa_again
