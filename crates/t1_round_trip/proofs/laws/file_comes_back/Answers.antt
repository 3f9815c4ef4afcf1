use Rattle.t1_round_trip.proofs.Bridges.{pfb_again}
use Rattle.t1_round_trip.proofs.laws.file_comes_back.Goals as goal

pub returns : goal.returns
returns c = pfb_again
