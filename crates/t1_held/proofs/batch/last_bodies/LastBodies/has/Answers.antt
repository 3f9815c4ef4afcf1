use Rattle.t1_held.proofs.batch.last_bodies.LastBodies.has.Goals as goal

pub returns-in-Glyph : goal.returns-in-Glyph
returns-in-Glyph c = rw (c.in-Glyph.is, ← c.as_slice.ensures) c.contains_key-in-Glyph.ensures
