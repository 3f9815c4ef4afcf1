-- The charstrings of a source, all encrypted.
use Rattle.std.specs.Prelude.{◌≡◌, ℕ, Option, Ok}
use Rattle.std.specs.Option.{option_map}
use Rattle.t1_parts.specs.LenIV.{lead}
use Rattle.t1_parts.specs.SourceParts.{SourceParts}
use Rattle.t1_run.specs.Run.{FontBodies, Key, Subr, Glyph}
use Rattle.t1_run.specs.RunKeys.{body_at}
use Rattle.t1_font.specs.Bodies.{bodies, bodies_check}
use Rattle.t1_charstrings.specs.declared.entries.Charstrings.{Charstrings}
use Rattle.t1_charstrings.specs.Entries.{KeptCharstring, encrypted, glyph_charstring, subr_charstring}

-- word: what is kept at a key
abbrev pub charstring_at : Charstrings → Key → Option KeptCharstring
charstring_at c (Subr n) = subr_charstring c.subrs.entries n
charstring_at c (Glyph g) = glyph_charstring c.glyphs.entries g

-- word: each body of the font is kept, encrypted with so many leading bytes, and nothing else
abbrev pub Encrypt : ℕ → FontBodies → Charstrings → Type 0
Encrypt lead m c = (k : Key) → charstring_at c k ≡ option_map (encrypted lead k) (body_at m k)

-- word: no body of the source has a fault, and each is kept, encrypted by the source's lenIV
pub record AreEncrypted (s : SourceParts) (c : Charstrings) : Type 0 where
  pub sound : bodies_check s.items ≡ Ok tt
  pub each : Encrypt (lead s) (bodies s.items) c
