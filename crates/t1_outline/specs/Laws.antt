-- What laws say of outlines that are shown.
use Rattle.std.specs.Prelude.{◌≡◌, ℕ, true, false, List, Some, None, Ok}
use Rattle.std.specs.List.{list_any}
use Rattle.t1_parts.specs.Entries.{is_glyph}
use Rattle.t1_parts.specs.SourceParts.{SourceParts}
use Rattle.t1_run.specs.declared.outline.Segment.{Segment}
use Rattle.t1_run.specs.Composite.{outline}
use Rattle.t1_run.specs.Run.{FontBodies}
use Rattle.t1_font.specs.Bodies.{bodies}
use Rattle.t1_font.specs.KeptBodies.{SameBodies}
use Rattle.t1_font.specs.SourceChecks.{source_check}
use Rattle.t1_outline.specs.Counting.{outline_runs}
use Rattle.t1_outline.specs.Shown.{glyph_outline, source_outline}
use Rattle.t1_outline.specs.Text.{outline_text}

-- profile, outlines: from a font whose bodies are those of a source without a fault, what is shown of a name is what the source
-- shows, by as many runs
pub record StoredOutline (m : FontBodies) (s : SourceParts) (name : List ℕ) : Type 0 where
  pub text : glyph_outline m name ≡ source_outline s name
  pub runs : outline_runs m name ≡ outline_runs (bodies s.items) name

-- profile, outlines: this is so of every such font
abbrev pub StoredOutlineLaw : Type 0
StoredOutlineLaw = (m : FontBodies) (s : SourceParts) (name : List ℕ) → source_check s ≡ Ok tt → SameBodies m (bodies s.items) → StoredOutline m s name

-- profile, outlines: a glyph of a source without a fault has an outline without a fault, whose text is shown
pub record GlyphShown (s : SourceParts) (name : List ℕ) : Type 0 where
  pub segments : List Segment
  pub drawn : outline (bodies s.items) name ≡ Ok segments
  pub shown : source_outline s name ≡ Ok (Some (outline_text segments))

-- profile, outlines: this is so of every glyph of a source
abbrev pub GlyphShownLaw : Type 0
GlyphShownLaw = (s : SourceParts) (name : List ℕ) → source_check s ≡ Ok tt → list_any (is_glyph name) s.items ≡ true → GlyphShown s name

-- profile, outlines: of a name that isn't a glyph's of a source without a fault nothing is shown
abbrev pub OtherShownLaw : Type 0
OtherShownLaw = (s : SourceParts) (name : List ℕ) → source_check s ≡ Ok tt → list_any (is_glyph name) s.items ≡ false → source_outline s name ≡ Ok None
