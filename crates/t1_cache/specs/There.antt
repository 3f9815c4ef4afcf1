-- What the glyphs of a font use is there, and so are the glyphs of a source without a fault.
use Rattle.std.specs.Prelude.{◌≡◌, ℕ, true, List, Some, Ok}
use Rattle.std.specs.List.{list_any}
use Rattle.std.specs.Str.{bytes_eq}
use Rattle.t1_code.specs.declared.command.Command.{Command}
use Rattle.t1_parts.specs.SourceParts.{SourceParts}
use Rattle.t1_run.specs.Run.{FontBodies, Key, own}
use Rattle.t1_run.specs.RunKeys.{body_at}
use Rattle.t1_run.specs.Touched.{is_user}
use Rattle.t1_font.specs.Bodies.{bodies}
use Rattle.t1_font.specs.Glyphs.{Glyph as Reported, glyph_names}
use Rattle.t1_font.specs.SourceChecks.{source_glyphs}

-- word: each Subr that a run without a fault enters, and each part of its composite, has a body in the font
abbrev pub UsesThereLaw : Type 0
UsesThereLaw = (m : FontBodies) (g : List ℕ) (k : Key) → is_user k (own m g) ≡ true → (body : List Command) × (body_at m k ≡ Some body)

-- word: the glyphs that have a body are entries of the source, and where it has no fault, each entry of a glyph has
-- a body
pub record NamesThere (s : SourceParts) : Type 0 where
  pub named : (g : List ℕ) (body : List Command) → (bodies s.items).glyphs g ≡ Some body → list_any (bytes_eq g) (glyph_names s.items) ≡ true
  pub there : (reported : List Reported) → source_glyphs s ≡ Ok reported → (g : List ℕ) → list_any (bytes_eq g) (glyph_names s.items) ≡ true
      → (body : List Command) × ((bodies s.items).glyphs g ≡ Some body)

-- word: this is so for every source
abbrev pub NamesThereLaw : Type 0
NamesThereLaw = (s : SourceParts) → NamesThere s
