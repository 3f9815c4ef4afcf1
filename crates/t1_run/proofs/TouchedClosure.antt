-- In a font whose glyphs all draw, the touched glyphs are closed under their users, and each is found through them.
use Rattle.std.proofs.Common.{◌≡◌, ℕ, zero, suc, Bool, true, false, List, refl, sym, ◌∙◌, ap, inl, inr, Option, Some, None}
use Rattle.std.specs.Prelude.{Result, Ok, Err, ◌||◌, ◌⊎◌}
use Rattle.std.specs.List.{list_any}
use Rattle.std.specs.Str.{bytes_eq}
use Rattle.std.proofs.lemmas.Bool.{or_cases, or_left, or_right}
use Rattle.t1_frac.specs.Outcome.{◌>>=◌}
use Rattle.t1_frac.specs.declared.fault.Code.{Code}
use Rattle.t1_frac.specs.declared.fault.Code.TheVariants.{F46}
use Rattle.t1_frac.proofs.OutcomeLaws.{bind_ok}
use Rattle.t1_code.specs.declared.command.Command.{Command}
use Rattle.t1_run.specs.declared.outline.Composite.{Composite}
use Rattle.t1_run.specs.declared.outline.Segment.{Segment}
use Rattle.t1_run.specs.Composite.{drawn, joined_outline, outline, outline_within, with_parts}
use Rattle.t1_run.specs.Footprint.{is_part, uses}
use Rattle.t1_run.specs.Run.{FontBodies, Key, Subr, Glyph, Drawing, own, own_of}
use Rattle.t1_run.specs.Touched.{is_key_of, is_met, is_named, is_touched, is_user, meets_part, meets_parts, meets_run, touched_within, AreStale, IsClosed, Found, Seed, User}
use Rattle.t1_run.specs.TouchedLaw.{TouchedAreStaleLaw}
use Rattle.t1_run.proofs.Asked.{bytes_self}
use Rattle.t1_run.proofs.FoundByUsers.{met-run, user-run}

-- a glyph that is met by no run is met where it is named
met-none : (keys : List Key) (g : List ℕ) → list_any (λ key. is_key_of g key || is_user key None) keys ≡ is_named keys g
met-none keys g = ap (λ p. list_any p keys) (λ j. λ key. alone (is_key_of g key) j) where
  alone : (t : Bool) → (t || false) ≡ t
  alone true = refl
  alone false = refl

-- what is touched at parts, where these draw
module _ (part : List ℕ → Result (List Segment) Code) (p q : List ℕ → Bool) (weaker : (g : List ℕ) (o : List Segment) → part g ≡ Ok o → p g ≡ true → q g ≡ true) where
  weaker-part : (c : Option Composite) (d : Drawing) (o : List Segment) → with_parts part c d ≡ Ok o → meets_part p c ≡ true → meets_part q c ≡ true
  weaker-part None d o drew h = absurd (cc)
  weaker-part (Some c) d o drew h =
      let b = bind_ok (part c.base) (λ base. part c.accent >>= (λ accent. joined_outline d base accent)) o drew in
      let t = bind_ok (part c.accent) (λ accent. joined_outline d b.0 accent) o b.2 in
      elim (or_cases (p c.base) (p c.accent) h) [
        | inl h' ↦ or_left (q c.base) (q c.accent) (weaker c.base b.0 b.1 h')
        | inr h' ↦ or_right (q c.base) (q c.accent) (weaker c.accent t.0 t.1 h')
      ]

  weaker-run : (r : Option (Result Drawing Code)) (o : List Segment) → drawn part r ≡ Ok o → meets_parts p r ≡ true → meets_parts q r ≡ true
  weaker-run None o drew h = absurd (cc)
  weaker-run (Some (Err code)) o drew h = absurd (cc)
  weaker-run (Some (Ok d)) o drew h = weaker-part d.composite d o drew h

module _ (m : FontBodies) (keys : List Key) where
  -- a glyph that draws with parts nested so deep is touched so deep, where it is touched at all
  no-parts : (c : Option Composite) (d : Drawing) (o : List Segment) → with_parts (λ g. Err F46) c d ≡ Ok o → (p : List ℕ → Bool) → meets_part p c ≡ true → ⊥
  no-parts None d o drew p h = cc
  no-parts (Some c) d o drew p h = let never : ◌≡◌ {A = Result (List Segment) Code} (Err F46) (Ok o) = drew in cc

  no-parts-drawn : (r : Option (Result Drawing Code)) (o : List Segment) → drawn (λ g. Err F46) r ≡ Ok o → (p : List ℕ → Bool) → meets_parts p r ≡ true → ⊥
  no-parts-drawn None o drew p h = cc
  no-parts-drawn (Some (Err code)) o drew p h = cc
  no-parts-drawn (Some (Ok d)) o drew p h = no-parts d.composite d o drew p h

  shallower : (depth : ℕ) (g : List ℕ) (o : List Segment) → outline_within (own m) depth g ≡ Ok o → touched_within (suc depth) m keys g ≡ true → touched_within depth m keys g ≡ true
  shallower zero g o drew h =
      elim (or_cases (meets_run keys g (own m g)) (meets_parts (touched_within zero m keys) (own m g)) h) [
        | inl met ↦ met
        | inr part ↦ absurd (no-parts-drawn (own m g) o drew (touched_within zero m keys) part)
      ]
  shallower (suc depth) g o drew h =
      elim (or_cases (meets_run keys g (own m g)) (meets_parts (touched_within (suc depth) m keys) (own m g)) h) [
        | inl met ↦ or_left (meets_run keys g (own m g)) (meets_parts (touched_within depth m keys) (own m g)) met
        | inr part ↦ or_right (meets_run keys g (own m g)) (meets_parts (touched_within depth m keys) (own m g))
            (weaker-run (outline_within (own m) depth) (touched_within (suc depth) m keys) (touched_within depth m keys) (shallower depth) (own m g) o drew part)
      ]

  -- a glyph that is touched is found
  abbrev PartsFound : (List ℕ → Result (List Segment) Code) → (List ℕ → Bool) → Type 0
  PartsFound part touched = (p : List ℕ) (o : List Segment) → part p ≡ Ok o → touched p ≡ true → Found m keys p

  found-part : (part : List ℕ → Result (List Segment) Code) (touched : List ℕ → Bool) → PartsFound part touched
      → (g : List ℕ) (d : Drawing) → own m g ≡ Some (Ok d) → (c : Option Composite) → d.composite ≡ c
      → (o : List Segment) → with_parts part c d ≡ Ok o → meets_part touched c ≡ true → Found m keys g
  found-part part touched found g d e None is o drew h = absurd (cc)
  found-part part touched found g d e (Some c) is o drew h =
      let b = bind_ok (part c.base) (λ base. part c.accent >>= (λ accent. joined_outline d base accent)) o drew in
      let t = bind_ok (part c.accent) (λ accent. joined_outline d b.0 accent) o b.2 in
      elim (or_cases (touched c.base) (touched c.accent) h) [
        | inl h' ↦ User c.base g (found c.base b.0 b.1 h')
            (ap (is_user (Glyph c.base)) e ∙ ap (is_part c.base) is ∙ or_left (bytes_eq c.base c.base) (bytes_eq c.accent c.base) (bytes_self c.base))
        | inr h' ↦ User c.accent g (found c.accent t.0 t.1 h')
            (ap (is_user (Glyph c.accent)) e ∙ ap (is_part c.accent) is ∙ or_right (bytes_eq c.base c.accent) (bytes_eq c.accent c.accent) (bytes_self c.accent))
      ]

  found-run : (part : List ℕ → Result (List Segment) Code) (touched : List ℕ → Bool) → PartsFound part touched
      → (g : List ℕ) (r : Option (Result Drawing Code)) → own m g ≡ r → (o : List Segment) → drawn part r ≡ Ok o
      → (meets_run keys g r || meets_parts touched r) ≡ true → Found m keys g
  found-run part touched found g None e o drew h = absurd (cc)
  found-run part touched found g (Some (Err code)) e o drew h = absurd (cc)
  found-run part touched found g (Some (Ok d)) e o drew h =
      elim (or_cases (list_any (uses g d) keys) (meets_part touched d.composite) h) [
        | inl h' ↦ Seed g (met-run m keys g d e ∙ h')
        | inr h' ↦ found-part part touched found g d e d.composite refl o drew h'
      ]

  touched-found : (depth : ℕ) (g : List ℕ) (o : List Segment) → outline_within (own m) depth g ≡ Ok o → touched_within depth m keys g ≡ true → Found m keys g
  touched-found zero g o drew h =
      found-run (λ p. Err F46) (λ p. false) (λ p o' e h'. absurd (cc)) g (own m g) refl o drew (or_left (meets_run keys g (own m g)) _ h)
  touched-found (suc depth) g o drew h =
      found-run (outline_within (own m) depth) (touched_within depth m keys) (touched-found depth) g (own m g) refl o drew h

  module _ (draws : (g : List ℕ) (body : List Command) → m.glyphs g ≡ Some body → (o : List Segment) × (outline m g ≡ Ok o)) where
    drawn-at : (g : List ℕ) (body : Option (List Command)) → m.glyphs g ≡ body → (own m g ≡ None) ⊎ ((o : List Segment) × (outline m g ≡ Ok o))
    unfolding own
    drawn-at g None e = inl (ap (own_of m) e)
    drawn-at g (Some body) e = inr (draws g body e)

    seeds-touched : (g : List ℕ) → list_any (is_met m g) keys ≡ true → is_touched m keys g ≡ true
    unfolding is_touched
    seeds-touched g h = or_left (meets_run keys g (own m g)) (meets_parts (touched_within 3 m keys) (own m g)) (by (own m g) refl) where
      by : (r : Option (Result Drawing Code)) → own m g ≡ r → meets_run keys g r ≡ true
      by None e = sym (met-none keys g) ∙ sym (ap (λ r. list_any (λ key. is_key_of g key || is_user key r) keys) e) ∙ h
      by (Some (Err code)) e = refl
      by (Some (Ok d)) e = sym (met-run m keys g d e) ∙ h

    users-touched : (p u : List ℕ) → is_touched m keys p ≡ true → is_user (Glyph p) (own m u) ≡ true → is_touched m keys u ≡ true
    unfolding is_touched outline
    users-touched p u h is =
        elim (drawn-at u (m.glyphs u) refl) [
          | inl none ↦ absurd (let never : false ≡ true = sym (ap (is_user (Glyph p)) none) ∙ is in cc)
          | inr drew ↦ or_right (meets_run keys u (own m u)) (meets_parts (touched_within 3 m keys) (own m u))
              (user-run m keys (outline_within (own m) 3) (touched_within 3 m keys) p (λ o e. shallower 3 p o e h) (own m u) drew.0 drew.1 is)
        ]

    all-found : (g : List ℕ) → is_touched m keys g ≡ true → Found m keys g
    unfolding is_touched outline
    all-found g h =
        elim (drawn-at g (m.glyphs g) refl) [
          | inl none ↦ Seed g (ap (λ r. list_any (λ key. is_key_of g key || is_user key r) keys) none ∙ met-none keys g ∙ named (or_cases (meets_run keys g (own m g)) (meets_parts (touched_within 3 m keys) (own m g)) h) none)
          | inr drew ↦ touched-found 4 g drew.0 drew.1 h
        ]
      where
        named : (meets_run keys g (own m g) ≡ true) ⊎ (meets_parts (touched_within 3 m keys) (own m g) ≡ true) → own m g ≡ None → is_named keys g ≡ true
        named (inl met) none = sym (ap (meets_run keys g) none) ∙ met
        named (inr part) none = absurd (let never : false ≡ true = sym (ap (meets_parts (touched_within 3 m keys)) none) ∙ part in cc)

pub touched_are_stale : TouchedAreStaleLaw
touched_are_stale m keys draws = record {
  closed = record { seeds = seeds-touched m keys draws; users = users-touched m keys draws };
  found = all-found m keys draws;
}
