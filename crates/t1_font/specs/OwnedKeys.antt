-- The keys of entries.
use Rattle.t1_run.specs.Run.{Key, Subr, Glyph}
use Rattle.t1_font.specs.declared.owned_key.OwnedKey.{OwnedKey}
use Rattle.t1_font.specs.declared.owned_key.OwnedKey.TheVariants as owned

-- profile: the key of a Subr or of a glyph, as the maps of bodies have it
abbrev pub key_of : OwnedKey → Key
key_of (owned.Subr n) = Subr n
key_of (owned.Glyph g) = Glyph g
