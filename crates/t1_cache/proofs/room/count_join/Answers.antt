use Rattle.t1_run.specs.Run.{Subr, Glyph}
use Rattle.t1_cache.proofs.room.count_join.Goals as goal

pub count_subr-requires : goal.count_subr-requires
count_subr-requires c = c.requires (Subr c.in-Subr.number)

pub count_glyph-requires : goal.count_glyph-requires
count_glyph-requires c = rw c.as_slice.ensures (c.requires (Glyph c.in-Glyph.name))
