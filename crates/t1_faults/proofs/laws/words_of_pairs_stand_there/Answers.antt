use Rattle.t1_faults.proofs.PairsLaws.{words_there}
use Rattle.t1_faults.proofs.laws.words_of_pairs_stand_there.Goals as goal

pub returns : goal.returns
returns c = words_there
