-- Keys with the same members.
use Rattle.std.proofs.Common.{◌≡◌, ℕ, zero, suc, Bool, true, false, not, List, [], ◌∷◌, filter, Option, None, Some, Result, Ok, Err, refl, sym, ◌∙◌, ap, inl, inr}
use Rattle.std.specs.Prelude.{◌||◌}
use Rattle.std.specs.List.{list_any}
use Rattle.std.specs.Cmp.{both_ways}
use Rattle.std.proofs.lemmas.Bool.{or_left, or_right}
use Rattle.t1_frac.specs.declared.fault.Code.{Code}
use Rattle.t1_run.specs.Footprint.{Includes, uses}
use Rattle.t1_run.specs.Run.{FontBodies, Key, Drawing, own}
use Rattle.t1_run.specs.RunKeys.{key_eq}
use Rattle.t1_run.specs.Touched.{is_key_of, is_named, is_touched, meets_parts, meets_run, touched_within}
use Rattle.t1_font.specs.Bodies.{bodies}
use Rattle.t1_font.specs.Glyphs.{glyph_names}
use Rattle.t1_font.proofs.Keys.{key-itself, key-same, included}
use Rattle.t1_held.specs.Members.{HaveSameKeys, SameEditedLaw, SameStaleGlyphsLaw, SameStaleLaw}

-- ---- one key

pub among-includes : (ks : List Key) (k : Key) → list_any (key_eq k) ks ≡ true → Includes ks k
among-includes [] k h = absurd (cc)
among-includes (x ∷ ks) k h = by (key_eq k x) refl h (among-includes ks k) where
  by : (b : Bool) → key_eq k x ≡ b → (b || list_any (key_eq k) ks) ≡ true → (list_any (key_eq k) ks ≡ true → Includes ks k) → Includes (x ∷ ks) k
  by true on h rest = inl (sym (key-same k x on))
  by false off h rest = inr (rest h)

passes-there : (f : Key → Bool) (ks : List Key) (k : Key) → Includes ks k → f k ≡ true → list_any f ks ≡ true
passes-there f [] k i on = absurd i
passes-there f (x ∷ ks) k (inl e) on = or_left (f x) (list_any f ks) (ap f e ∙ on)
passes-there f (x ∷ ks) k (inr i) on = or_right (f x) (list_any f ks) (passes-there f ks k i on)

-- ---- a test that some key passes

within : (f : Key → Bool) (ks ls : List Key) → ((k : Key) → list_any (key_eq k) ks ≡ true → list_any (key_eq k) ls ≡ true) → list_any f ks ≡ true
    → list_any f ls ≡ true
within f [] ls there h = absurd (cc)
within f (x ∷ ks) ls there h = by (f x) refl h (within f ks ls (λ k e. there k (or_right (key_eq k x) (list_any (key_eq k) ks) e))) where
  by : (b : Bool) → f x ≡ b → (b || list_any f ks) ≡ true → (list_any f ks ≡ true → list_any f ls ≡ true) → list_any f ls ≡ true
  by true on h rest =
      passes-there f ls x (among-includes ls x (there x (or_left (key_eq x x) (list_any (key_eq x) ks) (key-itself x)))) on
  by false off h rest = rest h

module _ (ks ls : List Key) (same : HaveSameKeys ks ls) where
  pub same-test : (f : Key → Bool) → list_any f ks ≡ list_any f ls
  same-test f =
      both_ways (list_any f ks) (list_any f ls) (within f ks ls (λ k h. sym (same k) ∙ h)) (within f ls ks (λ k h. same k ∙ h))

  met : (g : List ℕ) (r : Option (Result Drawing Code)) → meets_run ks g r ≡ meets_run ls g r
  met g None = same-test (is_key_of g)
  met g (Some (Err code)) = refl
  met g (Some (Ok d)) = same-test (uses g d)

  touched : (depth : ℕ) (m : FontBodies) (g : List ℕ) → touched_within depth m ks g ≡ touched_within depth m ls g
  touched zero m g = met g (own m g)
  touched (suc depth) m g =
      ap (λ b. b || meets_parts (touched_within depth m ks) (own m g)) (met g (own m g))
      ∙ ap (λ t. meets_run ls g (own m g) || meets_parts t (own m g)) (λ j. λ x. touched depth m x j)

  touched-same : (m : FontBodies) (g : List ℕ) → is_touched m ks g ≡ is_touched m ls g
  unfolding is_touched
  touched-same m g = touched 4 m g

  unnamed-same : (names : List (List ℕ)) → filter (λ g. not (is_named ks g)) names ≡ filter (λ g. not (is_named ls g)) names
  unnamed-same names = ap (λ p. filter p names) (λ j. λ g. not (same-test (is_key_of g) j))

pub same_stale : SameStaleLaw
same_stale ks ls same s g = touched-same ks ls same (bodies s.items) g

pub same_stale_glyphs : SameStaleGlyphsLaw
same_stale_glyphs ks ls same old new = ap (λ p. filter p (glyph_names new.items)) (λ j. λ g. same_stale ks ls same old g j)

pub same_edited : SameEditedLaw
same_edited ks ls same old new e = record {
  bodies = record { same = λ k out. e.bodies.same k (λ i. out (among-includes ls k (sym (same k) ∙ included ks k i))) };
  order = sym (unnamed-same ks ls same (glyph_names old.items)) ∙ e.order ∙ unnamed-same ks ls same (glyph_names new.items);
}
