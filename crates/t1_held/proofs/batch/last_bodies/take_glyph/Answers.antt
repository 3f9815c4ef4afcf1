use Rattle.t1_font.proofs.Keeping.{lookup-taken}
use Rattle.t1_held.proofs.batch.last_bodies.take_glyph.Goals as goal

pub returns-clause-others : goal.returns-clause-others
returns-clause-others c = lookup-taken (λ k. k.items) c.args.glyphs.now.entries c.swap_remove.new.self.entries c.args.name.now c.swap_remove.ensures.updates.0
