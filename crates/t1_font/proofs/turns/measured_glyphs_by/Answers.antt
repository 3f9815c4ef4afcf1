use Rattle.t1_font.proofs.FirstNames.{firsts}
use Rattle.t1_font.proofs.turns.measured_glyphs_by.Goals as goal

pub checked_turns-requires-clause-firsts : goal.checked_turns-requires-clause-firsts
checked_turns-requires-clause-firsts g c = firsts c.args.source.now c.source_is_well_formed.ensures

pub checked_turns-requires-clause-order : goal.checked_turns-requires-clause-order
checked_turns-requires-clause-order g c = λ a. λ b. λ g. λ words. λ closing. λ is.
    c.subrs_stand_first.ensures c.args.source.now a b g words closing c.source_is_well_formed.ensures is
