use Rattle.t1_rerun.proofs.opening.insert_bodies.Goals as goal

pub insert_entries-requires-clause-no_subrs : goal.insert_entries-requires-clause-no_subrs
insert_entries-requires-clause-no_subrs c = c.requires.no_subrs

pub insert_entries-requires-clause-no_glyphs : goal.insert_entries-requires-clause-no_glyphs
insert_entries-requires-clause-no_glyphs c = c.requires.no_glyphs

pub insert_entries-requires-clause-measured : goal.insert_entries-requires-clause-measured
insert_entries-requires-clause-measured c = c.requires.measured

pub returns : goal.returns
returns c = c.insert_entries.ensures
