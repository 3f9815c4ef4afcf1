-- The bodies that records hold.
use Rattle.std.specs.Prelude.{ℕ, nat_eq, List, Option}
use Rattle.std.specs.Map.{lookup}
use Rattle.std.specs.Option.{option_map}
use Rattle.std.specs.Str.{bytes_eq}
use Rattle.std.specs.declared.alloc.Global.{Global}
use Rattle.std.specs.declared.vec.Vec.{Vec}
use Rattle.t1_code.specs.declared.command.Command.{Command}
use Rattle.t1_run.specs.Run.{FontBodies, font}
use Rattle.t1_cache.specs.declared.records.GlyphRecord.{GlyphRecord}
use Rattle.t1_cache.specs.declared.records.Records.{Records}
use Rattle.t1_cache.specs.declared.records.SubrRecord.{SubrRecord}

-- word: the body in the record of a Subr
abbrev pub subr_body : List (ℕ × SubrRecord) → ℕ → Option (List Command)
subr_body entries n = option_map (λ r. r.body) (lookup (nat_eq n) entries)

-- word: the body in the record of a glyph
abbrev pub glyph_body : List (Vec ℕ Global × GlyphRecord) → List ℕ → Option (List Command)
glyph_body entries g = option_map (λ r. r.body) (lookup (λ key. bytes_eq g key.items) entries)

-- word: the bodies of the Subrs and glyphs that have a record
abbrev pub record_bodies : Records → FontBodies
record_bodies r = font (subr_body r.subrs.entries) (glyph_body r.glyphs.entries)
