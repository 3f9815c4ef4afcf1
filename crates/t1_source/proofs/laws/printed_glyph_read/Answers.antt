use Rattle.t1_parts.proofs.EntryLaws.{glyph_again}
use Rattle.t1_source.proofs.laws.printed_glyph_read.Goals as goal

pub returns : goal.returns
returns c = λ earlier g ws closing ls a b c d e. glyph_again earlier g ws closing ls a b c d e
