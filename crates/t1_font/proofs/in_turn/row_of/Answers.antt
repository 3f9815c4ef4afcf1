use Rattle.t1_font.proofs.in_turn.row_of.Goals as goal

pub returns-clause-row : goal.returns-clause-row
returns-clause-row c = λ run. λ h. c.in_ok-row.ensures run h
