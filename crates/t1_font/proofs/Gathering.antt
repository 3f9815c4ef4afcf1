-- What is reported of glyphs, one after another.
use Rattle.std.proofs.Common.{◌≡◌, ℕ, List, [], ◌∷◌, ◌++◌, map, append_assoc, refl, sym, ap, ◌∙◌, subst}
use Rattle.std.specs.Prelude.{Option, Result, Ok, Err}
use Rattle.t1_frac.specs.declared.fault.Code.{Code}
use Rattle.t1_frac.specs.declared.fault.Fault.{Fault}
use Rattle.t1_frac.specs.declared.fault.Place.{Place}
use Rattle.t1_frac.specs.declared.fault.Place.TheVariants as places
use Rattle.t1_frac.specs.declared.fault.Refusal.{Refusal}
use Rattle.t1_frac.specs.declared.fault.Refusal.TheVariants as refusals
use Rattle.t1_frac.specs.Outcome.{reported_at, ◌>>=◌, Refuses}
use Rattle.t1_run.specs.Composite.{outline_within}
use Rattle.t1_run.specs.Run.{Drawing}
use Rattle.t1_font.specs.declared.glyph_metrics.GlyphMetrics.{GlyphMetrics}
use Rattle.t1_font.specs.Glyphs.{Glyph, glyph_of, glyphs_by}
use Rattle.t1_font.proofs.Drawing.{refuses-then}
use Rattle.t1_font.specs.MeasuredGlyphs.{glyph_metrics, glyph_metrics_at}
use Rattle.t1_font.specs.MetricsByRuns.{glyph_metrics_among}

-- what runs that are kept draw, by the names of their glyphs
abbrev Runs : Type 0
Runs = List ℕ → Option (Result Drawing Code)

-- a list stands in front of what a definition gives
abbrev pub put_after : {X : Type 0} → List X → Result (List X) Fault → Result (List X) Fault
put_after front (Ok rest) = Ok (front ++ rest)
put_after front (Err fault) = Err fault

reported-first : (place : Place) (r : Result Glyph Code) (rest : Result (List Glyph) Fault)
    → ((reported_at place r >>= (λ g. rest >>= (λ gs. Ok (g ∷ gs)))) >>= (λ gs. Ok (map glyph_metrics gs)))
    ≡ (reported_at place (r >>= (λ g. Ok (glyph_metrics g))) >>= (λ s. (rest >>= (λ gs. Ok (map glyph_metrics gs))) >>= (λ ss. Ok (s ∷ ss))))
reported-first place (Ok g) (Ok gs) = refl
reported-first place (Ok g) (Err fault) = refl
reported-first place (Err code) rest = refl

pub metrics-first : (runs : Runs) (name : List ℕ) (names : List (List ℕ))
    → glyph_metrics_among runs (name ∷ names) ≡ (reported_at (places.Glyph name) (glyph_metrics_at runs name) >>= (λ s. glyph_metrics_among runs names >>= (λ ss. Ok (s ∷ ss))))
unfolding glyph_metrics_among glyph_metrics_at
metrics-first runs name names =
    reported-first (places.Glyph name) (glyph_of name (runs name) (outline_within runs 4 name)) (glyphs_by runs (outline_within runs 4) names)

after-one : {X : Type 0} (front : List X) (x : X) (rest : Result (List X) Fault) → put_after (front ++ x ∷ []) rest ≡ put_after front (rest >>= (λ xs. Ok (x ∷ xs)))
after-one front x (Ok xs) = ap Ok (append_assoc front (x ∷ []) xs)
after-one front x (Err fault) = refl

-- a glyph that was reported stands in front of the others
pub one-reported : (runs : Runs) (front : List GlyphMetrics) (name : List ℕ) (names : List (List ℕ)) (s : GlyphMetrics)
    → reported_at (places.Glyph name) (glyph_metrics_at runs name) ≡ Ok s → put_after (front ++ s ∷ []) (glyph_metrics_among runs names) ≡ put_after front (glyph_metrics_among runs (name ∷ names))
one-reported runs front name names s e =
    after-one front s (glyph_metrics_among runs names)
    ∙ sym (ap (λ r. put_after front (r >>= (λ t. glyph_metrics_among runs names >>= (λ ss. Ok (t ∷ ss))))) e)
    ∙ sym (ap (put_after front) (metrics-first runs name names))

refuses-after : {X : Type 0} (refused : Refusal) (front : List X) (r : Result (List X) Fault) → Refuses refused r → Refuses refused (put_after front r)
refuses-after refusals.Memory front r h = tt
refuses-after (refusals.Fault fault) front (Ok xs) h = absurd (cc)
refuses-after (refusals.Fault fault) front (Err e) h = cc

-- the first fault refuses all
pub one-refused : (runs : Runs) (front : List GlyphMetrics) (name : List ℕ) (names : List (List ℕ)) (refused : Refusal)
    → Refuses refused (reported_at (places.Glyph name) (glyph_metrics_at runs name)) → Refuses refused (put_after front (glyph_metrics_among runs (name ∷ names)))
one-refused runs front name names refused h =
    subst (λ r. Refuses refused (put_after front r)) (sym (metrics-first runs name names))
    (refuses-after refused front _ (refuses-then refused (reported_at (places.Glyph name) (glyph_metrics_at runs name)) (λ s. glyph_metrics_among runs names >>= (λ ss. Ok (s ∷ ss))) h))
