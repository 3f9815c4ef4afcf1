use Rattle.t1_round_trip.proofs.Bridges.{raw_again}
use Rattle.t1_round_trip.proofs.laws.raw_file_comes_back.Goals as goal

pub returns : goal.returns
returns c = raw_again
