-- The glyphs that stand last after one edit.
use Rattle.std.proofs.Common.{◌≡◌, ℕ, Bool, true, false, cond, List, [], ◌∷◌, ◌++◌, filter, not, refl, sym, ◌∙◌, ap, Option, Some, None, inl, inr, is_some}
use Rattle.std.specs.Prelude.{◌||◌, ◌&&◌}
use Rattle.std.specs.List.{AllByRecursion, list_any}
use Rattle.std.specs.Option.{option_to_list}
use Rattle.std.specs.Str.{bytes_eq}
use Rattle.std.proofs.Math.Bool.{and-true}
use Rattle.std.proofs.lemmas.List.{append-nil}
use Rattle.t1_code.specs.declared.command.Command.{Command}
use Rattle.t1_parts.specs.SourceParts.{SourceParts}
use Rattle.t1_run.specs.Footprint.{Includes}
use Rattle.t1_run.specs.Run.{Glyph}
use Rattle.t1_run.specs.RunKeys.{body_at}
use Rattle.t1_run.specs.Touched.{is_key_of}
use Rattle.t1_font.specs.Bodies.{bodies}
use Rattle.t1_font.specs.Glyphs.{glyph_names}
use Rattle.t1_font.specs.declared.owned_key.OwnedKey.{OwnedKey}
use Rattle.t1_font.specs.declared.owned_key.OwnedKey.TheVariants as named
use Rattle.t1_cache.specs.Edited.{IsEditedAt}
use Rattle.t1_cache.specs.Kept.{KeepsAll}
use Rattle.t1_cache.specs.Laws.{AreDistinct}
use Rattle.t1_cache.specs.Recorded.{RecordedGlyph}
use Rattle.t1_font.specs.OwnedKeys.{key_of}
use Rattle.t1_font.proofs.Lookups.{bytes_tell}
use Rattle.t1_rerun.specs.declared.entry_change.EntryChange.{EntryChange}
use Rattle.t1_rerun.specs.Right.{has_glyph, IsInOrder}
use Rattle.t1_rerun.specs.Settled.{changed_keys, last_glyph, last_glyphs, was_moved, HasBody}
use Rattle.t1_cache.proofs.Filtering.{filter-as}
use Rattle.t1_rerun.proofs.Entries.{IsInOrderAlone}
use Rattle.t1_rerun.proofs.Settled.{has-body}

-- ---- lists

filter-none : (xs : List (List ℕ)) → filter (λ x. false) xs ≡ []
filter-none [] = refl
filter-none (x ∷ xs) = filter-none xs

filter-nowhere : (g : List ℕ) (ys : List (List ℕ)) → list_any (bytes_eq g) ys ≡ false → filter (bytes_eq g) ys ≡ []
filter-nowhere g [] none = refl
filter-nowhere g (y ∷ ys) none = one (bytes_eq g y) none (filter-nowhere g ys) where
  one : (b : Bool) → (b || list_any (bytes_eq g) ys) ≡ false → (list_any (bytes_eq g) ys ≡ false → filter (bytes_eq g) ys ≡ [])
      → cond b (y ∷ filter (bytes_eq g) ys) (filter (bytes_eq g) ys) ≡ []
  one true none rest = absurd (cc)
  one false none rest = rest none

-- of names that are distinct one alone is this one
filter-one : (g : List ℕ) (xs : List (List ℕ)) → AreDistinct xs → list_any (bytes_eq g) xs ≡ true → filter (bytes_eq g) xs ≡ g ∷ []
filter-one g [] d h = absurd (cc)
filter-one g (x ∷ xs) d h = by (bytes_eq g x) refl (filter-one g xs d.1) where
  by : (b : Bool) → bytes_eq g x ≡ b → (list_any (bytes_eq g) xs ≡ true → filter (bytes_eq g) xs ≡ g ∷ [])
      → cond b (x ∷ filter (bytes_eq g) xs) (filter (bytes_eq g) xs) ≡ g ∷ []
  by true on rest =
      let same = bytes_tell.same g x on in
      ap (λ l. x ∷ l) (filter-nowhere g xs (ap (λ n. list_any (bytes_eq n) xs) same ∙ d.0)) ∙ ap (λ n. n ∷ []) (sym same)
  by false off rest = rest (ap (λ b. b || list_any (bytes_eq g) xs) (sym off) ∙ h)

-- ---- no glyph was moved

-- the order of one edit
pub one-order : (changes : List EntryChange) (old new : SourceParts) → ((g : List ℕ) → was_moved changes g ≡ false) → IsInOrderAlone old new
    → IsInOrder (was_moved changes) old new
one-order changes old new none order =
    order
    ∙ ap (λ l. l ++ filter (λ g. not (has_glyph old g)) (glyph_names new.items))
    (ap (λ p. filter p (glyph_names old.items)) (λ j. λ g. stays g j))
    ∙ ap (λ l. filter (λ g. has_glyph new g && not (was_moved changes g)) (glyph_names old.items) ++ l)
    (ap (λ p. filter p (glyph_names new.items)) (λ j. λ g. others g j))
  where
    stays : (g : List ℕ) → has_glyph new g ≡ (has_glyph new g && not (was_moved changes g))
    stays g = sym (and-true (has_glyph new g)) ∙ ap (λ b. has_glyph new g && not b) (sym (none g))

    others : (g : List ℕ) → not (has_glyph old g) ≡ (was_moved changes g || not (has_glyph old g))
    others g = ap (λ b. b || not (has_glyph old g)) (sym (none g))

module _ (old new : SourceParts) (keeps : (ks : List RecordedGlyph) × KeepsAll old ks) (new-has : (g : List ℕ) → has_glyph new g ≡ is_some ((bodies new.items).glyphs g))
    (distinct : AreDistinct (glyph_names new.items)) where
  old-has : (g : List ℕ) → has_glyph old g ≡ is_some ((bodies old.items).glyphs g)
  old-has = has-body old keeps.1.glyphs keeps.1.faultless

  not-in : (d : OwnedKey) (g : List ℕ) → is_key_of g (key_of d) ≡ false → Includes (key_of d ∷ []) (Glyph g) → ⊥
  not-in d g off (inl e) = let never : true ≡ false = sym (bytes_tell.itself g) ∙ ap (is_key_of g) (sym e) ∙ off in absurd (cc)
  not-in d g off (inr i) = i

  -- a glyph that isn't named is there where it was
  same-else : (d : OwnedKey) → IsEditedAt (key_of d ∷ []) old new → (g : List ℕ) → is_key_of g (key_of d) ≡ false → has_glyph old g ≡ has_glyph new g
  same-else d edit g off = old-has g ∙ ap is_some (edit.bodies.same (Glyph g) (not-in d g off)) ∙ sym (new-has g)

  -- the new glyphs are those that the change makes so
  last-one : (d : OwnedKey) (body : Option (List Command)) → IsEditedAt (key_of d ∷ []) old new → body_at (bodies new.items) (key_of d) ≡ body
      → filter (λ g. not (has_glyph old g)) (glyph_names new.items) ≡ last_glyph old false body d
  last-one (named.Subr n) body edit has =
      filter-as (λ g. not (has_glyph old g)) (λ g. false) (glyph_names new.items)
      (λ g there. ap not (same-else (named.Subr n) edit g refl ∙ there))
      ∙ filter-none (glyph_names new.items) ∙ none body
    where
      none : (b : Option (List Command)) → [] ≡ last_glyph old false b (named.Subr n)
      none None = refl
      none (Some b) = refl
  last-one (named.Glyph h) None edit has =
      filter-as (λ g. not (has_glyph old g)) (λ g. false) (glyph_names new.items) each ∙ filter-none (glyph_names new.items)
    where
      each : (g : List ℕ) → has_glyph new g ≡ true → not (has_glyph old g) ≡ false
      each g there = by (bytes_eq g h) refl where
        by : (b : Bool) → bytes_eq g h ≡ b → not (has_glyph old g) ≡ false
        by true on =
            let never : true ≡ false = sym there ∙ new-has g ∙ ap (λ x. is_some ((bodies new.items).glyphs x)) (bytes_tell.same g h on) ∙ ap is_some has in
            absurd (cc)
        by false off = ap not (same-else (named.Glyph h) edit g off ∙ there)
  last-one (named.Glyph h) (Some body) edit has = by (has_glyph old h) refl where
    new-there : has_glyph new h ≡ true
    new-there = new-has h ∙ ap is_some has

    by : (b : Bool) → has_glyph old h ≡ b → filter (λ g. not (has_glyph old g)) (glyph_names new.items) ≡ cond (false || not (has_glyph old h)) (h ∷ []) []
    by true was =
        filter-as (λ g. not (has_glyph old g)) (λ g. false) (glyph_names new.items) each ∙ filter-none (glyph_names new.items)
        ∙ ap (λ b. cond (not b) (h ∷ []) []) (sym was)
      where
        each : (g : List ℕ) → has_glyph new g ≡ true → not (has_glyph old g) ≡ false
        each g there = at (bytes_eq g h) refl where
          at : (b : Bool) → bytes_eq g h ≡ b → not (has_glyph old g) ≡ false
          at true on = ap (λ x. not (has_glyph old x)) (bytes_tell.same g h on) ∙ ap not was
          at false off = ap not (same-else (named.Glyph h) edit g off ∙ there)
    by false was =
        filter-as (λ g. not (has_glyph old g)) (bytes_eq h) (glyph_names new.items) each
        ∙ filter-one h (glyph_names new.items) distinct new-there
        ∙ ap (λ b. cond (not b) (h ∷ []) []) (sym was)
      where
        each : (g : List ℕ) → has_glyph new g ≡ true → not (has_glyph old g) ≡ bytes_eq h g
        each g there = at (bytes_eq h g) refl where
          off-turned : bytes_eq h g ≡ false → (b : Bool) → bytes_eq g h ≡ b → b ≡ false
          off-turned off false e = refl
          off-turned off true e =
              let never : true ≡ false = sym (bytes_tell.itself h) ∙ ap (bytes_eq h) (sym (bytes_tell.same g h e)) ∙ off in absurd (cc)

          at : (b : Bool) → bytes_eq h g ≡ b → not (has_glyph old g) ≡ b
          at true on = ap (λ x. not (has_glyph old x)) (sym (bytes_tell.same h g on)) ∙ ap not was
          at false off = ap not (same-else (named.Glyph h) edit g (off-turned off (bytes_eq g h) refl) ∙ there)

  -- where nothing is named the glyphs are the same
  last-none : IsEditedAt [] old new → filter (λ g. not (has_glyph old g)) (glyph_names new.items) ≡ []
  last-none edit =
      filter-as (λ g. not (has_glyph old g)) (λ g. false) (glyph_names new.items)
      (λ g there. ap not (old-has g ∙ ap is_some (edit.bodies.same (Glyph g) (λ i. i)) ∙ sym (new-has g) ∙ there))
      ∙ filter-none (glyph_names new.items)

last-glyph-unmoved : (old : SourceParts) (moved : Bool) (body : Option (List Command)) (d : OwnedKey) → ((g : List ℕ) → ((moved && is_key_of g (key_of d)) || false) ≡ false)
    → last_glyph old false body d ≡ last_glyph old moved body d
last-glyph-unmoved old false body d none = refl
last-glyph-unmoved old true None d none = refl
last-glyph-unmoved old true (Some body) (named.Subr n) none = refl
last-glyph-unmoved old true (Some body) (named.Glyph g) none =
    let never : true ≡ false = ap (λ b. b || false) (sym (bytes_tell.itself g)) ∙ none g in absurd (cc)

pub one-last : (change : Option EntryChange) (old new : SourceParts) (ks : List RecordedGlyph) → KeepsAll old ks → ((g : List ℕ) → has_glyph new g ≡ is_some ((bodies new.items).glyphs g))
    → IsEditedAt (changed_keys (option_to_list change)) old new → AllByRecursion (HasBody new) (option_to_list change) → AreDistinct (glyph_names new.items)
    → ((g : List ℕ) → was_moved (option_to_list change) g ≡ false)
    → filter (λ g. was_moved (option_to_list change) g || not (has_glyph old g)) (glyph_names new.items) ≡ last_glyphs old (option_to_list change)
one-last None old new ks keeps new-has edit has distinct none = last-none old new (ks, keeps) new-has distinct edit
one-last (Some c) old new ks keeps new-has edit has distinct none =
    ap (λ p. filter p (glyph_names new.items)) (λ j. λ g. (none g j) || not (has_glyph old g))
    ∙ last-one old new (ks, keeps) new-has distinct c.named c.body edit has.0
    ∙ last-glyph-unmoved old c.moved c.body c.named none
    ∙ sym (append-nil (last_glyph old c.moved c.body c.named))
