-- What laws say of a whole font.
use Rattle.std.specs.Prelude.{◌≡◌, ℕ, List, [], ◌∷◌, filter, map, Result, Ok}
use Rattle.t1_frac.specs.declared.fault.Fault.{Fault}
use Rattle.t1_frac.specs.declared.fault.Place.TheVariants as places
use Rattle.t1_frac.specs.Outcome.{reported_at, ◌>>=◌}
use Rattle.t1_parts.specs.Counts.{is_glyph_entry}
use Rattle.t1_parts.specs.Printing.{text}
use Rattle.t1_parts.specs.Reading.{reads}
use Rattle.t1_parts.specs.SourceParts.{SourceParts}
use Rattle.t1_source.specs.Editing.{is_subr_entry}
use Rattle.t1_source.specs.WellFormed.{IsWellFormed}
use Rattle.t1_run.specs.declared.outline.Segment.{Segment}
use Rattle.t1_run.specs.Composite.{outline}
use Rattle.t1_run.specs.Run.{FontBodies}
use Rattle.t1_font.specs.Assembly.{file_check}
use Rattle.t1_font.specs.Bodies.{bodies_check}
use Rattle.t1_font.specs.Glyphs.{glyphs}

-- profile: the outlines of the glyphs, or the first fault of an outline, at its glyph
abbrev pub outlines : FontBodies → List (List ℕ) → Result (List (List Segment)) Fault
outlines m [] = Ok []
outlines m (name ∷ names) =
    reported_at (places.Glyph name) (outline m name) >>= (λ segments. outlines m names >>= (λ rest. Ok (segments ∷ rest)))

-- profile: the first fault of glyphs is that of their outlines, and without a fault the outlines are theirs
abbrev pub OutlinesLaw : Type 0
OutlinesLaw = (m : FontBodies) (names : List (List ℕ)) → (glyphs m names >>= (λ gs. Ok (map (λ g. g.outline) gs))) ≡ outlines m names

-- profile: a file is judged by the first fault over the bodies of its Subrs, then over those of its glyphs, and then by itself
abbrev pub SubrsFirstLaw : Type 0
SubrsFirstLaw = (s : SourceParts) → IsWellFormed s
    → file_check s ≡ (bodies_check (filter is_subr_entry s.items) >>= λ subrs. bodies_check (filter is_glyph_entry s.items) >>= λ glyphs. file_check s)

-- profile: a source whose file has no fault is read from its text as it was
abbrev pub ReadsBackLaw : Type 0
ReadsBackLaw = (s : SourceParts) → IsWellFormed s → file_check s ≡ Ok tt → reads (text s) ≡ Ok s
