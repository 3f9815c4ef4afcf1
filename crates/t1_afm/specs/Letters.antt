-- Glyphs whose names have one byte.
use Rattle.std.specs.Prelude.{Bool, length, nat_eq}
use Rattle.t1_afm.specs.declared.metrics.CharMetric.{CharMetric}

-- word: the name of a glyph has one byte, as the names have whose heights a file tells
abbrev pub is_letter : CharMetric → Bool
is_letter c = nat_eq (length c.name) 1
