-- Which glyphs keep their run, and tables of users after edits.
use Rattle.std.proofs.Common.{◌≡◌, ℕ, Bool, true, false, cond, not, List, [], ◌∷◌, refl, sym, ap, ◌∙◌, Option, Some, None, inl, inr}
use Rattle.std.specs.Prelude.{◌||◌, ◌&&◌}
use Rattle.std.specs.List.{list_any}
use Rattle.std.proofs.Math.Bool.{and-false}
use Rattle.std.proofs.lemmas.Bool.{cases_Bool, or_right}
use Rattle.std.proofs.lemmas.Slice.Eq.{bytes_eq-Decides}
use Rattle.t1_code.specs.declared.command.Command.{Command}
use Rattle.t1_run.specs.Footprint.{Includes}
use Rattle.t1_run.specs.Run.{FontBodies, Key, Glyph, own}
use Rattle.t1_run.specs.RunKeys.{body_at, key_eq}
use Rattle.t1_run.specs.Touched.{is_key_of, is_met, is_named, is_touched, is_user, meets_parts, meets_run, touched_within}
use Rattle.t1_run.proofs.FoundByUsers.{found_are_touched}
use Rattle.t1_run.proofs.Untouched.{untouched_kept}
use Rattle.t1_cache.specs.Joins.{FirstTablesLaw, KeptRunLaw, JoinsLaw, LessTablesLaw, StaleFoundLaw}
use Rattle.t1_cache.specs.Users.{lists, has_pair}
use Rattle.t1_font.proofs.Keys.{key-same}
use Rattle.t1_font.proofs.Measuring.{own-none}
use Rattle.t1_cache.proofs.Newest.{not-key}
use Rattle.t1_cache.proofs.There.{uses_there}

-- a glyph that is named is met
met-named : (m : FontBodies) (g : List ℕ) (keys : List Key) → Includes keys (Glyph g) → list_any (is_met m g) keys ≡ true
met-named m g [] i = absurd i
met-named m g (k ∷ keys) (inl e) =
    let here : is_met m g k ≡ true = ap (is_met m g) e ∙ ap (λ b. b || is_user (Glyph g) (own m g)) ((bytes_eq-Decides g g).1 refl) in
    ap (λ b. b || list_any (is_met m g) keys) here
met-named m g (k ∷ keys) (inr i) = or_right (is_met m g k) (list_any (is_met m g) keys) (met-named m g keys i)

pub run_kept : KeptRunLaw
run_kept keys m n but draw names stale g off = by (m.glyphs g) refl where
  apart : Includes keys (Glyph g) → ⊥
  apart i = let never : true ≡ false = sym (stale.closed.seeds g (met-named m g keys i)) ∙ off in cc

  by : (body : Option (List Command)) → m.glyphs g ≡ body → own n g ≡ own m g
  by None e = own-none n g (sym (but.same (Glyph g) apart) ∙ e) ∙ sym (own-none m g e)
  by (Some body) e =
      let drew = draw g body e in
      let fresh = sym (found_are_touched m keys names stale.closed stale.found g drew.0 drew.1) ∙ off in
      (untouched_kept keys m n but g drew.0 drew.1 fresh).0

pub met-all : (m : FontBodies) (g : List ℕ) (keys : List Key) → is_named keys g ≡ true → list_any (is_met m g) keys ≡ true
met-all m g [] h = h
met-all m g (k ∷ keys) h = by (is_key_of g k) refl h (met-all m g keys) where
  by : (b : Bool) → is_key_of g k ≡ b → (b || is_named keys g) ≡ true → (is_named keys g ≡ true → list_any (is_met m g) keys ≡ true)
      → list_any (is_met m g) (k ∷ keys) ≡ true
  by true e h rest = ap (λ b. (b || is_user k (own m g)) || list_any (is_met m g) keys) e
  by false e h rest = or_right (is_met m g k) (list_any (is_met m g) keys) (rest h)

touched-named : (m : FontBodies) (keys : List Key) (g : List ℕ) → own m g ≡ None → is_named keys g ≡ true → is_touched m keys g ≡ true
unfolding is_touched
touched-named m keys g none named =
    ap (λ r. meets_run keys g r || meets_parts (touched_within 3 m keys) r) none
    ∙ ap (λ b. b || false) named

pub found_stale : StaleFoundLaw
found_stale keys m n but draw names stale g body there = by (m.glyphs g) refl where
  named : m.glyphs g ≡ None → is_named keys g ≡ true
  named e =
      elim (cases_Bool (is_named keys g)) [
        | inl on ↦ on
        | inr off ↦
            let never : None ≡ Some body = sym e ∙ but.same (Glyph g) (not-key keys g off) ∙ there in
            absurd (cc)
      ]

  by : (was : Option (List Command)) → m.glyphs g ≡ was → names g ≡ is_touched m keys g
  by None e =
      stale.closed.seeds g (met-all m g keys (named e))
      ∙ sym (touched-named m keys g (own-none m g e) (named e))
  by (Some was) e =
      let drew = draw g was e in
      found_are_touched m keys names stale.closed stale.found g drew.0 drew.1

pub moved : (on was new : Bool) → ((was && not (on && was)) || (on && new)) ≡ cond on new was
moved true true new = refl
moved true false new = refl
moved false true new = refl
moved false false new = refl

pub tables_kept : JoinsLaw
tables_kept keys m n but draw names stale old new leaves joins before out in_ after k g =
    after k g
    ∙ ap (λ b. (lists old k g && not b) || has_pair joins k g) (out k g)
    ∙ ap (λ b. (lists old k g && not (names g && is_user k (own m g))) || b) (in_ k g)
    ∙ ap (λ b. (b && not (names g && is_user k (own m g))) || (names g && is_user k (own n g))) (before k g)
    ∙ moved (names g) (is_user k (own m g)) (is_user k (own n g))
    ∙ elim (cases_Bool (names g)) [
      | inl on ↦ ap (λ b. cond b (is_user k (own n g)) (is_user k (own m g))) on
      | inr off ↦
          ap (λ b. cond b (is_user k (own n g)) (is_user k (own m g))) off
          ∙ ap (is_user k) (sym (run_kept keys m n but draw names stale g off))
    ]

pub tables_first : FirstTablesLaw
tables_first m names all old new leaves joins empty in_ after k g =
    after k g
    ∙ ap (λ b. (b && not (has_pair leaves k g)) || has_pair joins k g) (empty k g)
    ∙ in_ k g
    ∙ by (m.glyphs g) refl
  where
    by : (body : Option (List Command)) → m.glyphs g ≡ body → (names g && is_user k (own m g)) ≡ is_user k (own m g)
    by None e =
        ap (λ r. names g && is_user k r) (own-none m g e) ∙ and-false (names g)
        ∙ ap (is_user k) (sym (own-none m g e))
    by (Some body) e = ap (λ b. b && is_user k (own m g)) (all g body e)

pub tables_less : LessTablesLaw
tables_less m key gone old new before after k g =
    after k g
    ∙ ap (λ b. b && not (key_eq k key)) (before k g)
    ∙ by (is_user k (own m g)) refl (key_eq k key) refl
  where
    by : (used : Bool) → is_user k (own m g) ≡ used → (here : Bool) → key_eq k key ≡ here → (used && not here) ≡ used
    by false e here f = refl
    by true e false f = refl
    by true e true f =
        let there = uses_there m g k e in
        let never : None ≡ Some there.0 = sym gone ∙ ap (body_at m) (sym (key-same k key f)) ∙ there.1 in
        absurd (cc)
