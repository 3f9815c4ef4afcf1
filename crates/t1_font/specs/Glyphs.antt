-- The glyphs of a font: what each draws, its box, and the first fault.
use Rattle.std.specs.Prelude.{ℕ, List, [], ◌∷◌, flat_map, Option, None, Some, Result, Ok}
use Rattle.t1_frac.specs.declared.fault.Code.{Code}
use Rattle.t1_frac.specs.declared.fault.Fault.{Fault}
use Rattle.t1_frac.specs.declared.fault.Place.TheVariants as places
use Rattle.t1_frac.specs.Outcome.{reported_at, ◌>>=◌}
use Rattle.t1_parts.specs.declared.item.Item.{Item}
use Rattle.t1_parts.specs.declared.item.Item.TheVariants as items
use Rattle.t1_run.specs.declared.outline.Composite.{Composite}
use Rattle.t1_run.specs.declared.outline.Point.{Point}
use Rattle.t1_run.specs.declared.outline.Segment.{Segment}
use Rattle.t1_run.specs.Composite.{accent_move, outline}
use Rattle.t1_run.specs.Run.{FontBodies, Drawing, own}
use Rattle.t1_extent.specs.FoundRuns.{run_there}
use Rattle.t1_font.specs.declared.glyph_metrics.PlacedParts.{PlacedParts}

-- profile: the name of an item, where it is a glyph
abbrev pub name_in : Item → List (List ℕ)
name_in (items.Glyph name words closing) = name ∷ []
name_in _ = []

-- profile: the names of the glyphs, in the order of their entries
abbrev pub glyph_names : List Item → List (List ℕ)
glyph_names items = flat_map name_in items

-- Type 1 Font Format, Chapter 6 (seac): the parts of a composite, and how far its accent is moved
abbrev pub placed_parts_of : Point → Option Composite → Result (Option PlacedParts) Code
placed_parts_of bearing None = Ok None
placed_parts_of bearing (Some c) = accent_move bearing c >>= (λ by. Ok (Some (record { base = c.base; accent = c.accent; by = by })))

-- profile: a glyph's name, what its own body draws, its outline, and its parts where it is a composite
pub record Glyph : Type 0 where
  pub name : List ℕ
  pub drawing : Drawing
  pub outline : List Segment
  pub parts : Option PlacedParts

-- profile, order of faults: the glyph's own run, then its outline, of which the move of its accent is a part
abbrev pub glyph_of : List ℕ → Option (Result Drawing Code) → Result (List Segment) Code → Result Glyph Code
glyph_of name run outline =
    run_there run >>= (λ drawing.
    outline >>= (λ segments.
    placed_parts_of drawing.bearing drawing.composite >>= (λ parts.
    Ok (record { name = name; drawing = drawing; outline = segments; parts = parts }))))

-- profile, order of faults: one glyph after another, each fault at its glyph
abbrev pub glyphs_by : (List ℕ → Option (Result Drawing Code)) → (List ℕ → Result (List Segment) Code) → List (List ℕ) → Result (List Glyph) Fault
glyphs_by run outline [] = Ok []
glyphs_by run outline (name ∷ names) =
    reported_at (places.Glyph name) (glyph_of name (run name) (outline name)) >>= (λ glyph.
    glyphs_by run outline names >>= (λ glyphs.
    Ok (glyph ∷ glyphs)))

-- profile: the glyphs of these names, by the font's runs and outlines
abbrev pub glyphs : FontBodies → List (List ℕ) → Result (List Glyph) Fault
glyphs m names = glyphs_by (own m) (outline m) names
