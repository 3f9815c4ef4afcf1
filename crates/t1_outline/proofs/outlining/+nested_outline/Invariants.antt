use Rattle.t1_outline.proofs.outlining.+nested_outline.Given as goal

abbrev pub decreases-nested_outline : goal.decreases-nested_outline
decreases-nested_outline g l = l.depth
