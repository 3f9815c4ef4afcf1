-- The outlines of glyphs, and their first fault.
use Rattle.std.proofs.Common.{◌≡◌, ℕ, List, [], ◌∷◌, ◌++◌, map, refl, ap, ◌∙◌, Option, Some, None}
use Rattle.std.specs.Prelude.{Result, Ok, Err}
use Rattle.t1_frac.specs.declared.fault.Code.{Code}
use Rattle.t1_frac.specs.declared.fault.Fault.{Fault}
use Rattle.t1_frac.specs.declared.fault.Place.{Place}
use Rattle.t1_frac.specs.declared.fault.Place.TheVariants as places
use Rattle.t1_frac.specs.Outcome.{reported_at, ◌>>=◌}
use Rattle.t1_run.specs.declared.outline.Composite.{Composite}
use Rattle.t1_run.specs.declared.outline.Point.{Point}
use Rattle.t1_run.specs.declared.outline.Segment.{Segment}
use Rattle.t1_run.specs.Composite.{accent_move, moved_outline, joined_outline, joined_with, with_parts, drawn, outline, outline_within}
use Rattle.t1_run.specs.Run.{FontBodies, Drawing, own}
use Rattle.t1_font.specs.declared.glyph_metrics.PlacedParts.{PlacedParts}
use Rattle.t1_font.specs.Glyphs.{Glyph, placed_parts_of, glyph_of, glyphs}
use Rattle.t1_font.specs.Laws.{OutlinesLaw}

-- an outline, or its fault, and the move of its accent, one after the other
abbrev Then : Option Composite → Drawing → Result (List Segment) Code → Type 0
Then c d r = (r >>= (λ segments. placed_parts_of d.bearing c >>= (λ _. Ok segments))) ≡ r

abbrev with_move : Composite → Result Point Code → Result (Option PlacedParts) Code
with_move c by = by >>= (λ by'. Ok (Some (record { base = c.base; accent = c.accent; by = by' })))

move-then : (by : Result Point Code) (c : Composite) (next : Point → Result (List Segment) Code)
    → ((by >>= next) >>= (λ segments. with_move c by >>= (λ _. Ok segments))) ≡ (by >>= next)
move-then (Err code) c next = refl
move-then (Ok by) c next = moved (next by) where
  moved : (r : Result (List Segment) Code) → (r >>= (λ segments. Ok segments)) ≡ r
  moved (Ok segments) = refl
  moved (Err code) = refl

joined-then : (c : Composite) (d : Drawing) (base accent : List Segment) → Then (Some c) d (joined_with (Some c) d base accent)
joined-then c d base accent = move-then (accent_move d.bearing c) c (λ by. moved_outline by accent >>= (λ accent'. Ok (d.segments ++ base ++ accent')))

bind-then : {A : Type 0} (c : Option Composite) (d : Drawing) (r : Result A Code) (next : A → Result (List Segment) Code)
    → ((x : A) → Then c d (next x)) → Then c d (r >>= next)
bind-then c d (Ok x) next h = h x
bind-then c d (Err code) next h = refl

parts-then : (part : List ℕ → Result (List Segment) Code) (c : Option Composite) (d : Drawing)
    → ((base accent : List Segment) → joined_outline d base accent ≡ joined_with c d base accent) → Then c d (with_parts part c d)
parts-then part None d e = refl
parts-then part (Some c) d e =
    bind-then (Some c) d (part c.base) (λ base. part c.accent >>= (λ accent. joined_outline d base accent)) (λ base.
    bind-then (Some c) d (part c.accent) (λ accent. joined_outline d base accent) (λ accent.
    rw (e base accent) (joined-then c d base accent)))

joined-is : (d : Drawing) (base accent : List Segment) → joined_outline d base accent ≡ joined_with d.composite d base accent
unfolding joined_outline
joined-is d base accent = refl

-- a glyph's outline, or its fault
abbrev outline_of : Result Glyph Code → Result (List Segment) Code
outline_of r = r >>= (λ g. Ok g.outline)

third : (name : List ℕ) (d : Drawing) (segments : List Segment) (r : Result (Option PlacedParts) Code)
    → outline_of (r >>= (λ parts. Ok (record { name = name; drawing = d; outline = segments; parts = parts }))) ≡ (r >>= (λ _. Ok segments))
third name d segments (Ok parts) = refl
third name d segments (Err code) = refl

second : (name : List ℕ) (d : Drawing) (r : Result (List Segment) Code)
    → outline_of (glyph_of name (Some (Ok d)) r) ≡ (r >>= (λ segments. placed_parts_of d.bearing d.composite >>= (λ _. Ok segments)))
second name d (Ok segments) = third name d segments (placed_parts_of d.bearing d.composite)
second name d (Err code) = refl

first : (name : List ℕ) (part : List ℕ → Result (List Segment) Code) (run : Option (Result Drawing Code)) → outline_of (glyph_of name run (drawn part run)) ≡ drawn part run
first name part None = refl
first name part (Some (Err code)) = refl
first name part (Some (Ok d)) = second name d (with_parts part d.composite d) ∙ parts-then part d.composite d (joined-is d)

outline-of : (m : FontBodies) (name : List ℕ) → outline_of (glyph_of name (own m name) (outline m name)) ≡ outline m name
unfolding outline
outline-of m name = first name (outline_within (own m) 3) (own m name)

reported-each : (place : Place) (r : Result Glyph Code) (rest : Result (List Glyph) Fault)
    → ((reported_at place r >>= (λ g. rest >>= (λ gs. Ok (g ∷ gs)))) >>= (λ gs. Ok (map (λ g. g.outline) gs)))
    ≡ (reported_at place (outline_of r) >>= (λ segments. (rest >>= (λ gs. Ok (map (λ g. g.outline) gs))) >>= (λ more. Ok (segments ∷ more))))
reported-each place (Ok g) (Ok gs) = refl
reported-each place (Ok g) (Err fault) = refl
reported-each place (Err code) rest = refl

pub outlines_are : OutlinesLaw
outlines_are m [] = refl
outlines_are m (name ∷ names) =
    reported-each (places.Glyph name) (glyph_of name (own m name) (outline m name)) (glyphs m names)
    ∙ ap (λ r. reported_at (places.Glyph name) r >>= (λ segments. (glyphs m names >>= (λ gs. Ok (map (λ g. g.outline) gs))) >>= (λ more. Ok (segments ∷ more)))) (outline-of m name)
    ∙ ap (λ r. reported_at (places.Glyph name) (outline m name) >>= (λ segments. r >>= (λ more. Ok (segments ∷ more)))) (outlines_are m names)
