-- Edits taken in turn edit a source at the keys of all.
use Rattle.std.proofs.Common.{◌≡◌, ℕ, Bool, true, false, cond, not, ◌||◌, List, [], ◌∷◌, ◌++◌, filter, refl, sym, ◌∙◌, ap}
use Rattle.std.proofs.Math.Bool.{or_assoc}
use Rattle.t1_run.specs.Run.{Key, Subr, Glyph}
use Rattle.t1_run.specs.Footprint.{Includes, SameAt}
use Rattle.t1_font.specs.Bodies.{bodies}
use Rattle.t1_font.specs.Glyphs.{glyph_names}
use Rattle.t1_run.specs.Touched.{is_key_of, is_named}
use Rattle.t1_run.proofs.Outlines.{in_first, in_second}
use Rattle.t1_cache.specs.Laws.{TurnLaw}

named-both : (ks ls : List Key) (g : List ℕ) → is_named (ks ++ ls) g ≡ (is_named ks g || is_named ls g)
named-both [] ls g = refl
named-both (x ∷ ks) ls g = ap (λ t. is_key_of g x || t) (named-both ks ls g) ∙ sym (or_assoc (is_key_of g x) (is_named ks g) (is_named ls g))

-- where only elements of a part pass, those that pass are those of the part
within : {X : Type 0} (p q : X → Bool) → ((x : X) → q x ≡ false → p x ≡ false) → (xs : List X) → filter p xs ≡ filter p (filter q xs)
within p q h [] = refl
within p q h (x ∷ xs) = ap (λ ys. cond (p x) (x ∷ ys) ys) (within p q h xs) ∙ one (q x) (h x) where
  one : (t : Bool) → (t ≡ false → p x ≡ false) → cond (p x) (x ∷ filter p (filter q xs)) (filter p (filter q xs)) ≡ filter p (cond t (x ∷ filter q xs) (filter q xs))
  one true h = refl
  one false h = rw (h refl) refl

pub turns : TurnLaw
turns ks ls a b c first second = record { bodies = record { same = same }; order = order } where
  same : (k : Key) → (Includes (ks ++ ls) k → ⊥) → SameAt (bodies a.items) (bodies c.items) k
  same (Subr n) other = first.bodies.same (Subr n) (λ i. other (in_first ks ls (Subr n) i)) ∙ second.bodies.same (Subr n) (λ i. other (in_second ks ls (Subr n) i))
  same (Glyph g) other = first.bodies.same (Glyph g) (λ i. other (in_first ks ls (Glyph g) i)) ∙ second.bodies.same (Glyph g) (λ i. other (in_second ks ls (Glyph g) i))

  p : List ℕ → Bool
  p g = not (is_named (ks ++ ls) g)

  q : List ℕ → Bool
  q g = not (is_named ks g)

  r : List ℕ → Bool
  r g = not (is_named ls g)

  left : (g : List ℕ) → q g ≡ false → p g ≡ false
  left g h = ap not (named-both ks ls g) ∙ by (is_named ks g) (is_named ls g) h where
    by : (x y : Bool) → not x ≡ false → not (x || y) ≡ false
    by true y h = refl
    by false y h = absurd (cc)

  right : (g : List ℕ) → r g ≡ false → p g ≡ false
  right g h = ap not (named-both ks ls g) ∙ by (is_named ks g) (is_named ls g) h where
    by : (x y : Bool) → not y ≡ false → not (x || y) ≡ false
    by true y h = refl
    by false y h = h

  order : filter p (glyph_names a.items) ≡ filter p (glyph_names c.items)
  order =
      within p q left (glyph_names a.items) ∙ ap (filter p) first.order ∙ sym (within p q left (glyph_names b.items))
      ∙ within p r right (glyph_names b.items) ∙ ap (filter p) second.order ∙ sym (within p r right (glyph_names c.items))
