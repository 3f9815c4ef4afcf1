-- The glyphs found through tables of users are those that are touched.
use Rattle.std.proofs.Common.{◌≡◌, ℕ, zero, suc, Bool, true, false, List, refl, sym, ◌∙◌, ap, inl, inr, Option, Some, None}
use Rattle.std.specs.Prelude.{Result, Ok, Err, ◌||◌}
use Rattle.std.specs.List.{list_any}
use Rattle.std.specs.Str.{bytes_eq}
use Rattle.std.proofs.lemmas.Bool.{or_cases, or_left, or_right}
use Rattle.std.proofs.lemmas.Slice.Eq.{bytes_eq-Decides}
use Rattle.t1_frac.specs.Outcome.{◌>>=◌}
use Rattle.t1_frac.specs.declared.fault.Code.{Code}
use Rattle.t1_frac.specs.declared.fault.Code.TheVariants.{F46}
use Rattle.t1_frac.proofs.OutcomeLaws.{bind_ok}
use Rattle.t1_run.specs.declared.outline.Composite.{Composite}
use Rattle.t1_run.specs.declared.outline.Segment.{Segment}
use Rattle.t1_run.specs.Composite.{joined_outline, with_parts, drawn, outline_within, outline}
use Rattle.t1_run.specs.Footprint.{uses, is_part}
use Rattle.t1_run.specs.Run.{FontBodies, Key, Subr, Glyph, Drawing, own}
use Rattle.t1_run.specs.Touched.{is_key_of, is_user, is_met, meets_run, meets_part, meets_parts, touched_within, is_touched, IsClosed, Found, Seed, User, FoundByUsersLaw}
use Rattle.t1_run.proofs.Asked.{bytes_self}

pub both-ways : (a b : Bool) → (a ≡ true → b ≡ true) → (b ≡ true → a ≡ true) → a ≡ b
both-ways true b h h' = sym (h refl)
both-ways false true h h' = h' refl
both-ways false false h h' = refl

-- of a run without a fault, the keys that it meets are those that it uses
met-uses : (g : List ℕ) (d : Drawing) (key : Key) → (is_key_of g key || is_user key (Some (Ok d))) ≡ uses g d key
met-uses g d (Subr n) = refl
met-uses g d (Glyph h) = refl

pub met-run : (m : FontBodies) (keys : List Key) (g : List ℕ) (d : Drawing) → own m g ≡ Some (Ok d) → list_any (is_met m g) keys ≡ list_any (uses g d) keys
met-run m keys g d e =
    ap (λ r. list_any (λ key. is_key_of g key || is_user key r) keys) e
    ∙ ap (λ p. list_any p keys) (λ j. λ key. met-uses g d key j)

module _ (m : FontBodies) (keys : List Key) (has : List ℕ → Bool) (closed : IsClosed m keys has) where
  -- what the parts of a glyph give it
  abbrev PartsHave : (List ℕ → Result (List Segment) Code) → (List ℕ → Bool) → Type 0
  PartsHave part touched = (p : List ℕ) (o : List Segment) → part p ≡ Ok o → touched p ≡ true → has p ≡ true

  part-has : (part : List ℕ → Result (List Segment) Code) (touched : List ℕ → Bool) → PartsHave part touched
      → (g : List ℕ) (d : Drawing) → own m g ≡ Some (Ok d) → (c : Option Composite) → d.composite ≡ c
      → (o : List Segment) → with_parts part c d ≡ Ok o → meets_part touched c ≡ true → has g ≡ true
  part-has part touched have g d e None is o drew h = absurd (cc)
  part-has part touched have g d e (Some c) is o drew h =
      let b = bind_ok (part c.base) (λ base. part c.accent >>= (λ accent. joined_outline d base accent)) o drew in
      let t = bind_ok (part c.accent) (λ accent. joined_outline d b.0 accent) o b.2 in
      elim (or_cases (touched c.base) (touched c.accent) h) [
        | inl h' ↦ closed.users c.base g (have c.base b.0 b.1 h')
            (ap (is_user (Glyph c.base)) e ∙ ap (is_part c.base) is ∙ or_left (bytes_eq c.base c.base) (bytes_eq c.accent c.base) (bytes_self c.base))
        | inr h' ↦ closed.users c.accent g (have c.accent t.0 t.1 h')
            (ap (is_user (Glyph c.accent)) e ∙ ap (is_part c.accent) is ∙ or_right (bytes_eq c.base c.accent) (bytes_eq c.accent c.accent) (bytes_self c.accent))
      ]

  run-has : (part : List ℕ → Result (List Segment) Code) (touched : List ℕ → Bool) → PartsHave part touched
      → (g : List ℕ) (r : Option (Result Drawing Code)) → own m g ≡ r → (o : List Segment) → drawn part r ≡ Ok o
      → (meets_run keys g r || meets_parts touched r) ≡ true → has g ≡ true
  run-has part touched have g None e o drew h = absurd (cc)
  run-has part touched have g (Some (Err code)) e o drew h = absurd (cc)
  run-has part touched have g (Some (Ok d)) e o drew h =
      elim (or_cases (list_any (uses g d) keys) (meets_part touched d.composite) h) [
        | inl h' ↦ closed.seeds g (met-run m keys g d e ∙ h')
        | inr h' ↦ part-has part touched have g d e d.composite refl o drew h'
      ]

  touched-has : (depth : ℕ) (g : List ℕ) (o : List Segment) → outline_within (own m) depth g ≡ Ok o → touched_within depth m keys g ≡ true → has g ≡ true
  touched-has zero g o drew h =
      run-has (λ p. Err F46) (λ p. false) (λ p o' e h'. absurd (cc)) g (own m g) refl o drew (or_left (meets_run keys g (own m g)) _ h)
  touched-has (suc depth) g o drew h =
      run-has (outline_within (own m) depth) (touched_within depth m keys) (touched-has depth) g (own m g) refl o drew h

module _ (m : FontBodies) (keys : List Key) where
  -- what is touched among the parts of a glyph touches it
  abbrev PartsTouch : (List ℕ → Result (List Segment) Code) → (List ℕ → Bool) → List ℕ → Type 0
  PartsTouch part touched p = (o : List Segment) → part p ≡ Ok o → touched p ≡ true

  user-part : (part : List ℕ → Result (List Segment) Code) (touched : List ℕ → Bool) (p : List ℕ) → PartsTouch part touched p
      → (c : Option Composite) (d : Drawing) (o : List Segment) → with_parts part c d ≡ Ok o → is_part p c ≡ true → meets_part touched c ≡ true
  user-part part touched p touch None d o drew h = absurd (cc)
  user-part part touched p touch (Some c) d o drew h =
      let b = bind_ok (part c.base) (λ base. part c.accent >>= (λ accent. joined_outline d base accent)) o drew in
      let t = bind_ok (part c.accent) (λ accent. joined_outline d b.0 accent) o b.2 in
      elim (or_cases (bytes_eq c.base p) (bytes_eq c.accent p) h) [
        | inl h' ↦ let same : c.base ≡ p = (bytes_eq-Decides c.base p).0 h' in
            or_left (touched c.base) (touched c.accent) (ap touched same ∙ touch b.0 (ap part (sym same) ∙ b.1))
        | inr h' ↦ let same : c.accent ≡ p = (bytes_eq-Decides c.accent p).0 h' in
            or_right (touched c.base) (touched c.accent) (ap touched same ∙ touch t.0 (ap part (sym same) ∙ t.1))
      ]

  pub user-run : (part : List ℕ → Result (List Segment) Code) (touched : List ℕ → Bool) (p : List ℕ) → PartsTouch part touched p
      → (r : Option (Result Drawing Code)) (o : List Segment) → drawn part r ≡ Ok o → is_user (Glyph p) r ≡ true → meets_parts touched r ≡ true
  user-run part touched p touch None o drew h = absurd (cc)
  user-run part touched p touch (Some (Err code)) o drew h = absurd (cc)
  user-run part touched p touch (Some (Ok d)) o drew h = user-part part touched p touch d.composite d o drew h

  seed-run : (part : List ℕ → Result (List Segment) Code) (g : List ℕ) (r : Option (Result Drawing Code)) → own m g ≡ r → (o : List Segment) → drawn part r ≡ Ok o
      → list_any (is_met m g) keys ≡ true → meets_run keys g r ≡ true
  seed-run part g None e o drew h = absurd (cc)
  seed-run part g (Some (Err code)) e o drew h = absurd (cc)
  seed-run part g (Some (Ok d)) e o drew h = sym (met-run m keys g d e) ∙ h

  found-touched : (g : List ℕ) → Found m keys g → (depth : ℕ) (o : List Segment) → outline_within (own m) depth g ≡ Ok o → touched_within depth m keys g ≡ true
  found-touched g (Seed _ h) zero o drew = seed-run (λ p. Err F46) g (own m g) refl o drew h
  found-touched g (Seed _ h) (suc depth) o drew =
      or_left (meets_run keys g (own m g)) (meets_parts (touched_within depth m keys) (own m g))
      (seed-run (outline_within (own m) depth) g (own m g) refl o drew h)
  found-touched g (User p _ found h) zero o drew =
      let never = user-run (λ q. Err F46) (λ q. false) p (λ o' e. absurd (cc)) (own m g) o drew h in
      absurd (never-met (own m g) never) where
        never-part : (c : Option Composite) → meets_part (λ q. false) c ≡ true → ⊥
        never-part None h = cc
        never-part (Some c) h = cc

        never-met : (r : Option (Result Drawing Code)) → meets_parts (λ q. false) r ≡ true → ⊥
        never-met None h = cc
        never-met (Some (Err code)) h = cc
        never-met (Some (Ok d)) h = never-part d.composite h
  found-touched g (User p _ found h) (suc depth) o drew =
      or_right (meets_run keys g (own m g)) (meets_parts (touched_within depth m keys) (own m g))
      (user-run (outline_within (own m) depth) (touched_within depth m keys) p (λ o' e. found-touched p found depth o' e) (own m g) o drew h)

pub found_are_touched : FoundByUsersLaw
unfolding outline is_touched
found_are_touched m keys has closed found g o drew =
    both-ways (has g) (touched_within 4 m keys g)
    (λ h. found-touched m keys g (found g h) 4 o drew)
    (λ h. touched-has m keys has closed 4 g o drew h)
