-- The records after each edit, before any glyph is run again.
use Rattle.std.proofs.Common.{◌≡◌, ℕ, zero, suc, Bool, true, false, cond, not, List, [], ◌∷◌, ◌++◌, filter, map, refl, sym, ◌∙◌, ap, inl, inr, Option, Some, None}
use Rattle.std.specs.Prelude.{Result, Ok, Err, ◌||◌}
use Rattle.std.specs.List.{AllByRecursion, list_any}
use Rattle.std.specs.Str.{bytes_eq}
use Rattle.std.proofs.Math.Bool.{or-true}
use Rattle.t1_source.specs.declared.edit.Edit.TheVariants.{ReplaceGlyph, AddGlyph, RemoveGlyph, ReplaceSubr, AddSubr, RemoveSubr, Encode, Unencode, LenIv, Kern, Unkern}
use Rattle.std.proofs.lemmas.Bool.{or_parts}
use Rattle.std.proofs.lemmas.List.Folds.{list_any-append}
use Rattle.t1_frac.specs.declared.fault.Code.{Code}
use Rattle.t1_parts.specs.SourceParts.{SourceParts}
use Rattle.t1_run.specs.declared.outline.Composite.{Composite}
use Rattle.t1_run.specs.Footprint.{uses}
use Rattle.t1_run.specs.Run.{FontBodies, Key, Glyph, Drawing, own}
use Rattle.t1_run.specs.Touched.{is_key_of, is_touched, meets_part, meets_parts, meets_run, touched_within}
use Rattle.t1_font.specs.Bodies.{bodies}
use Rattle.t1_cache.specs.Edited.{is_stale}
use Rattle.t1_cache.specs.EditKeys.{subr_key}
use Rattle.t1_cache.specs.Kept.{KeepsAll}
use Rattle.t1_cache.specs.Renewal.{AreInPlace, KeptAfterLaw, KeptTurnLaw}
use Rattle.t1_cache.specs.Recorded.{IsOneOf, RecordedGlyph}
use Rattle.t1_cache.proofs.EditedNames.{names_edited}
use Rattle.t1_cache.proofs.Judging.{unnamed}
use Rattle.t1_font.proofs.Lookups.{bytes_tell}
use Rattle.t1_cache.proofs.Renewing.{names_kept}
use Rattle.t1_cache.proofs.Lists.{all-last}

-- ---- lists of records

all-one-of : (P : RecordedGlyph → Type 0) (all xs : List RecordedGlyph) → ((k : RecordedGlyph) → IsOneOf xs k → IsOneOf all k) → AllByRecursion (λ k. P k → IsOneOf all k) xs
all-one-of P all [] among = tt
all-one-of P all (x ∷ xs) among = ((λ p. among x (inl refl)), all-one-of P all xs (λ k i. among k (inr i)))

pub names-last : (xs : List RecordedGlyph) (k : RecordedGlyph) → map (λ x. x.name) (xs ++ k ∷ []) ≡ map (λ x. x.name) xs ++ k.name ∷ []
names-last [] k = refl
names-last (x ∷ xs) k = ap (λ l. x.name ∷ l) (names-last xs k)

names-filtered : (g : List ℕ) (xs : List RecordedGlyph) → map (λ x. x.name) (filter (λ k. not (bytes_eq g k.name)) xs) ≡ filter (λ name. not (bytes_eq g name)) (map (λ x. x.name) xs)
names-filtered g [] = refl
names-filtered g (x ∷ xs) = by (bytes_eq g x.name) (names-filtered g xs) where
  by : (b : Bool) → map (λ x. x.name) (filter (λ k. not (bytes_eq g k.name)) xs) ≡ filter (λ name. not (bytes_eq g name)) (map (λ x. x.name) xs)
      → map (λ x. x.name) (cond (not b) (x ∷ filter (λ k. not (bytes_eq g k.name)) xs) (filter (λ k. not (bytes_eq g k.name)) xs))
      ≡ cond (not b) (x.name ∷ filter (λ name. not (bytes_eq g name)) (map (λ x. x.name) xs)) (filter (λ name. not (bytes_eq g name)) (map (λ x. x.name) xs))
  by true rest = rest
  by false rest = ap (λ l. x.name ∷ l) rest

-- ---- more keys

some : {X : Type 0} (test : X → Bool) (ks ls : List X) → list_any test (ks ++ ls) ≡ false → list_any test ks ≡ false
some test ks ls h = (or_parts (list_any test ks) (list_any test ls) (sym (list_any-append test ks ls) ∙ h)).0

fewer-run : (ks ls : List Key) (g : List ℕ) (r : Option (Result Drawing Code)) → meets_run (ks ++ ls) g r ≡ false → meets_run ks g r ≡ false
fewer-run ks ls g None h = some (is_key_of g) ks ls h
fewer-run ks ls g (Some (Err code)) h = h
fewer-run ks ls g (Some (Ok d)) h = some (uses g d) ks ls h

fewer-part : (p q : List ℕ → Bool) → ((g : List ℕ) → p g ≡ false → q g ≡ false) → (c : Option Composite) → meets_part p c ≡ false → meets_part q c ≡ false
fewer-part p q less None h = h
fewer-part p q less (Some c) h =
    let h' = or_parts (p c.base) (p c.accent) h in
    ap (λ b. b || q c.accent) (less c.base h'.0) ∙ less c.accent h'.1

fewer-parts : (p q : List ℕ → Bool) → ((g : List ℕ) → p g ≡ false → q g ≡ false) → (r : Option (Result Drawing Code)) → meets_parts p r ≡ false → meets_parts q r ≡ false
fewer-parts p q less None h = h
fewer-parts p q less (Some (Err code)) h = h
fewer-parts p q less (Some (Ok d)) h = fewer-part p q less d.composite h

fewer-within : (m : FontBodies) (ks ls : List Key) (depth : ℕ) (g : List ℕ) → touched_within depth m (ks ++ ls) g ≡ false → touched_within depth m ks g ≡ false
fewer-within m ks ls zero g h = fewer-run ks ls g (own m g) h
fewer-within m ks ls (suc depth) g h =
    let h' = or_parts (meets_run (ks ++ ls) g (own m g)) (meets_parts (touched_within depth m (ks ++ ls)) (own m g)) h in
    ap (λ b. b || meets_parts (touched_within depth m ks) (own m g)) (fewer-run ks ls g (own m g) h'.0)
    ∙ fewer-parts (touched_within depth m (ks ++ ls)) (touched_within depth m ks) (fewer-within m ks ls depth) (own m g) h'.1

-- a glyph that more keys don't touch isn't touched by some of them
fewer : (m : FontBodies) (ks ls : List Key) (g : List ℕ) → is_touched m (ks ++ ls) g ≡ false → is_touched m ks g ≡ false
unfolding is_touched
fewer m ks ls g h = fewer-within m ks ls 4 g h

-- ---- an edit more

still-fresh : (s : SourceParts) (ks ls : List Key) (all xs : List RecordedGlyph) → AllByRecursion (λ k. is_stale s ks k.name ≡ false → IsOneOf all k) xs
    → AllByRecursion (λ k. is_stale s (ks ++ ls) k.name ≡ false → IsOneOf all k) xs
still-fresh s ks ls all [] h = tt
still-fresh s ks ls all (x ∷ xs) h = ((λ off. h.0 (fewer (bodies s.items) ks ls x.name off)), still-fresh s ks ls all xs h.1)

all-filtered : (Q : RecordedGlyph → Type 0) (test : RecordedGlyph → Bool) (xs : List RecordedGlyph) → AllByRecursion Q xs → AllByRecursion Q (filter test xs)
all-filtered Q test [] h = tt
all-filtered Q test (x ∷ xs) h = by (test x) (all-filtered Q test xs h.1) where
  by : (b : Bool) → AllByRecursion Q (filter test xs) → AllByRecursion Q (cond b (x ∷ filter test xs) (filter test xs))
  by true rest = (h.0, rest)
  by false rest = rest

-- a glyph that is named is stale
named-stale : (s : SourceParts) (ks : List Key) (g : List ℕ) → is_stale s (ks ++ Glyph g ∷ []) g ≡ false → ⊥
named-stale s ks g off =
    let never : true ≡ false =
    sym (list_any-append (is_key_of g) ks (Glyph g ∷ []) ∙ ap (λ b. list_any (is_key_of g) ks || (b || false)) (bytes_tell.itself g) ∙ or-true (list_any (is_key_of g) ks))
    ∙ unnamed (bodies s.items) (ks ++ Glyph g ∷ []) g off in
    absurd (cc)

pub turn_in_place : KeptTurnLaw
turn_in_place keys old s k (AddGlyph g body) made ps well e kept before at run box = record {
  order = names-last before (record { name = g; run = run; box = box }) ∙ ap (λ l. l ++ g ∷ []) at.order ∙ sym (names_edited s k (AddGlyph g body) made ps well e);
  fresh =
      all-last (λ x. is_stale old (keys ++ Glyph g ∷ []) x.name ≡ false → IsOneOf kept x) before (record { name = g; run = run; box = box })
      (still-fresh old keys (Glyph g ∷ []) kept before at.fresh) (λ off. absurd (named-stale old keys g off));
}
turn_in_place keys old s k (RemoveGlyph g) made ps well e kept before at run box = record {
  order = names-filtered g before ∙ ap (filter (λ name. not (bytes_eq g name))) at.order ∙ sym (names_edited s k (RemoveGlyph g) made ps well e);
  fresh =
      all-filtered (λ x. is_stale old (keys ++ Glyph g ∷ []) x.name ≡ false → IsOneOf kept x) (λ k. not (bytes_eq g k.name)) before
      (still-fresh old keys (Glyph g ∷ []) kept before at.fresh);
}
turn_in_place keys old s k (ReplaceGlyph g body) made ps well e kept before at run box = record {
  order = at.order ∙ sym (names_edited s k (ReplaceGlyph g body) made ps well e);
  fresh = still-fresh old keys (Glyph g ∷ []) kept before at.fresh;
}
turn_in_place keys old s k (ReplaceSubr n body) made ps well e kept before at run box = record {
  order = at.order ∙ sym (names_edited s k (ReplaceSubr n body) made ps well e);
  fresh = still-fresh old keys (subr_key n) kept before at.fresh;
}
turn_in_place keys old s k (AddSubr n body) made ps well e kept before at run box = record {
  order = at.order ∙ sym (names_edited s k (AddSubr n body) made ps well e);
  fresh = still-fresh old keys (subr_key n) kept before at.fresh;
}
turn_in_place keys old s k (RemoveSubr n) made ps well e kept before at run box = record {
  order = at.order ∙ sym (names_edited s k (RemoveSubr n) made ps well e);
  fresh = still-fresh old keys (subr_key n) kept before at.fresh;
}
turn_in_place keys old s k (Encode code g) made ps well e kept before at run box = record {
  order = at.order ∙ sym (names_edited s k (Encode code g) made ps well e);
  fresh = still-fresh old keys [] kept before at.fresh;
}
turn_in_place keys old s k (Unencode code) made ps well e kept before at run box = record {
  order = at.order ∙ sym (names_edited s k (Unencode code) made ps well e);
  fresh = still-fresh old keys [] kept before at.fresh;
}
turn_in_place keys old s k (LenIv n) made ps well e kept before at run box = record {
  order = at.order ∙ sym (names_edited s k (LenIv n) made ps well e);
  fresh = still-fresh old keys [] kept before at.fresh;
}
turn_in_place keys old s k (Kern first second v) made ps well e kept before at run box = record {
  order = at.order ∙ sym (names_edited s k (Kern first second v) made ps well e);
  fresh = still-fresh old keys [] kept before at.fresh;
}
turn_in_place keys old s k (Unkern first second) made ps well e kept before at run box = record {
  order = at.order ∙ sym (names_edited s k (Unkern first second) made ps well e);
  fresh = still-fresh old keys [] kept before at.fresh;
}

-- those kept are in place before any edit
kept-first : (s : SourceParts) (kept : List RecordedGlyph) → KeepsAll s kept → AreInPlace [] s s kept kept
kept-first s kept keeps = record {
  order = names_kept s kept keeps;
  fresh = all-one-of (λ x. is_stale s [] x.name ≡ false) kept kept (λ x i. i);
}

pub kept_in_place : KeptAfterLaw
kept_in_place s k edit made ps well e kept keeps run box = turn_in_place [] s s k edit made ps well e kept kept (kept-first s kept keeps) run box
