-- The entry that an edit names, and the glyphs after it.
use Rattle.std.proofs.Common.{◌≡◌, ℕ, ℤ, pos, negsuc, Bool, true, false, not, List, [], ◌∷◌, ◌++◌, filter, nat_le, refl, sym, ◌∙◌, ap, subst, arith, inl, inr, Result, Ok, Err}
use Rattle.std.specs.Prelude.{◌||◌}
use Rattle.std.specs.List.{AllByRecursion, list_any}
use Rattle.std.specs.Option.{option_to_list}
use Rattle.std.specs.Str.{bytes_eq}
use Rattle.std.proofs.lemmas.Bool.{cases_Bool, or_left, or_right}
use Rattle.std.proofs.lemmas.Bool.Decides.{nat_tests}
use Rattle.std.proofs.lemmas.List.{append-nil}
use Rattle.std.proofs.lemmas.List.Folds.{list_any-append}
use Rattle.std.proofs.lemmas.Slice.Eq.{bytes_eq-Decides}
use Rattle.std.proofs.lemmas.List.Elements.{filter-append}
use Rattle.t1_parts.specs.SourceParts.{SourceParts}
use Rattle.t1_source.specs.declared.edit.Edit.{Edit}
use Rattle.t1_source.specs.declared.edit.Edit.TheVariants.{ReplaceGlyph, AddGlyph, RemoveGlyph, ReplaceSubr, AddSubr, RemoveSubr, Encode, Unencode, LenIv, Kern, Unkern}
use Rattle.t1_source.specs.declared.edit.Rule.{Rule}
use Rattle.t1_source.specs.declared.edit.Rule.TheVariants.{E4}
use Rattle.t1_pairs.specs.declared.pairs.Pair.{Pair}
use Rattle.t1_source.specs.Editing.{number_up_to, replaced_subr, added_subr, removed_subr, edited}
use Rattle.t1_source.specs.WellFormed.{IsWellFormed}
use Rattle.t1_source.proofs.WellFormedEditedLaws.{source_given}
use Rattle.t1_font.specs.Glyphs.{glyph_names}
use Rattle.t1_cache.specs.Edited.{names_after}
use Rattle.t1_cache.specs.EditKeys.{named, subr_key}
use Rattle.t1_cache.specs.Laws.{AreDistinct}
use Rattle.t1_cache.proofs.Distinct.{names_distinct}
use Rattle.t1_cache.proofs.EditedNames.{names_edited}
use Rattle.t1_rerun.specs.Renewing.{entry_key, number_key}
use Rattle.t1_rerun.specs.Right.{has_glyph}
use Rattle.t1_run.proofs.Asked.{bytes_self}
use Rattle.t1_cache.proofs.Accepted.{added_subr-made, removed_subr-made, replaced_subr-made}
use Rattle.t1_cache.proofs.Filtering.{among-passing, among-off, filter-agreed, passed}
use Rattle.t1_rerun.proofs.Meeting.{all-among}

-- ---- the key that an edit names

number-of : (v : ℤ) (n : ℕ) → number_up_to 32000 v ≡ Ok n → option_to_list (number_key v) ≡ subr_key v
number-of (negsuc m) n e = refl
number-of (pos m) n e =
    elim (cases_Bool (nat_le m 32000)) [
      | inl low ↦ let fits : nat_le m 65535 ≡ true = grind (arith, nat_tests, low) in rw fits refl
      | inr high ↦ let never : ◌≡◌ {A = Result ℕ Rule} (Err E4) (Ok n) = rw high at e in absurd (cc)
    ]

subr-replaced : (s : SourceParts) (v : ℤ) (body : List ℕ) (made : SourceParts) → replaced_subr s v body ≡ Ok made → option_to_list (number_key v) ≡ subr_key v
subr-replaced s v body made e = let its = replaced_subr-made s v body made e in number-of v its.n its.within

subr-added : (s : SourceParts) (v : ℤ) (body : List ℕ) (made : SourceParts) → added_subr s v body ≡ Ok made → option_to_list (number_key v) ≡ subr_key v
subr-added s v body made e = let its = added_subr-made s v body made e in number-of v its.n its.within

subr-removed : (s : SourceParts) (v : ℤ) (made : SourceParts) → removed_subr s v ≡ Ok made → option_to_list (number_key v) ≡ subr_key v
subr-removed s v made e = let its = removed_subr-made s v made e in number-of v its.n its.within

-- an edit that is made names the entry of its key
pub key-named : (s : SourceParts) (k : List Pair) (edit : Edit) (made : SourceParts) (ps : List Pair) → edited s k edit ≡ Ok (made, ps)
    → option_to_list (entry_key edit) ≡ named edit
unfolding edited
key-named s k (ReplaceGlyph g body) made ps e = refl
key-named s k (AddGlyph g body) made ps e = refl
key-named s k (RemoveGlyph g) made ps e = refl
key-named s k (ReplaceSubr n body) made ps e = subr-replaced s n body made (source_given k ps (replaced_subr s n body) made e)
key-named s k (AddSubr n body) made ps e = subr-added s n body made (source_given k ps (added_subr s n body) made e)
key-named s k (RemoveSubr n) made ps e = subr-removed s n made (source_given k ps (removed_subr s n) made e)
key-named s k (Encode code g) made ps e = refl
key-named s k (Unencode code) made ps e = refl
key-named s k (LenIv n) made ps e = refl
key-named s k (Kern left right v) made ps e = refl
key-named s k (Unkern left right) made ps e = refl

-- ---- the order of the glyphs

all-pass : (p : List ℕ → Bool) (xs : List (List ℕ)) → AllByRecursion (λ x. p x ≡ true) xs → filter p xs ≡ xs
all-pass p [] h = refl
all-pass p (x ∷ xs) h = rw h.0 (ap (λ l. x ∷ l) (all-pass p xs h.1))

none-pass : (p : List ℕ → Bool) (xs : List (List ℕ)) → AllByRecursion (λ x. p x ≡ true) xs → filter (λ x. not (p x)) xs ≡ []
none-pass p [] h = refl
none-pass p (x ∷ xs) h = rw h.0 (none-pass p xs h.1)

-- the same glyphs
same-order : (xs : List (List ℕ)) → xs ≡ filter (λ g. list_any (bytes_eq g) xs) xs ++ filter (λ g. not (list_any (bytes_eq g) xs)) xs
same-order xs =
    let all = all-among xs xs (λ x h. h) in
    sym (ap (λ l. l ++ filter (λ g. not (list_any (bytes_eq g) xs)) xs) (all-pass (λ g. list_any (bytes_eq g) xs) xs all)
    ∙ ap (λ l. xs ++ l) (none-pass (λ g. list_any (bytes_eq g) xs) xs all)
    ∙ append-nil xs)

-- a glyph more
last-not : (xs : List (List ℕ)) (g : List ℕ) → AreDistinct (xs ++ g ∷ []) → list_any (bytes_eq g) xs ≡ false
last-not [] g d = refl
last-not (x ∷ xs) g d =
    let off = apart (bytes_eq g x) refl in
    rw off (last-not xs g d.1)
  where
    apart : (b : Bool) → bytes_eq g x ≡ b → bytes_eq g x ≡ false
    apart true e =
        let same : g ≡ x = (bytes_eq-Decides g x).0 e in
        let there : list_any (bytes_eq x) (xs ++ g ∷ []) ≡ true =
        list_any-append (bytes_eq x) xs (g ∷ []) ∙ or_right (list_any (bytes_eq x) xs) (bytes_eq x g || false) (or_left (bytes_eq x g) false (ap (bytes_eq x) same ∙ bytes_self x)) in
        let never : true ≡ false = sym there ∙ d.0 in
        absurd (cc)
    apart false e = e

added-order : (xs : List (List ℕ)) (g : List ℕ) → AreDistinct (xs ++ g ∷ [])
    → xs ++ g ∷ [] ≡ filter (λ x. list_any (bytes_eq x) (xs ++ g ∷ [])) xs ++ filter (λ x. not (list_any (bytes_eq x) xs)) (xs ++ g ∷ [])
added-order xs g d =
    let all = all-among xs (xs ++ g ∷ []) (λ x h. list_any-append (bytes_eq x) xs (g ∷ []) ∙ or_left (list_any (bytes_eq x) xs) (bytes_eq x g || false) h) in
    let fresh : filter (λ x. not (list_any (bytes_eq x) xs)) (g ∷ []) ≡ g ∷ [] = rw (last-not xs g d) refl in
    sym (ap (λ l. l ++ filter (λ x. not (list_any (bytes_eq x) xs)) (xs ++ g ∷ [])) (all-pass (λ x. list_any (bytes_eq x) (xs ++ g ∷ [])) xs all)
    ∙ ap (λ l. xs ++ l) (filter-append (λ x. not (list_any (bytes_eq x) xs)) xs (g ∷ [])
    ∙ ap (λ l. l ++ filter (λ x. not (list_any (bytes_eq x) xs)) (g ∷ [])) (none-pass (λ x. list_any (bytes_eq x) xs) xs (all-among xs xs (λ x h. h)))
    ∙ fresh))

-- a glyph less
removed-order : (xs : List (List ℕ)) (q : List ℕ → Bool)
    → filter q xs ≡ filter (λ x. list_any (bytes_eq x) (filter q xs)) xs ++ filter (λ x. not (list_any (bytes_eq x) xs)) (filter q xs)
removed-order xs q =
    sym (ap (λ l. l ++ filter (λ x. not (list_any (bytes_eq x) xs)) (filter q xs)) (filter-agreed (λ x. list_any (bytes_eq x) (filter q xs)) q xs (each xs (all-among xs xs (λ x h. h))))
    ∙ ap (λ l. filter q xs ++ l) (none-pass (λ x. list_any (bytes_eq x) xs) (filter q xs) (all-among (filter q xs) xs (λ x h. passed q x xs h)))
    ∙ append-nil (filter q xs))
  where
    one : (x : List ℕ) → list_any (bytes_eq x) xs ≡ true → (b : Bool) → q x ≡ b → list_any (bytes_eq x) (filter q xs) ≡ q x
    one x here true on = among-passing q x xs here on ∙ sym on
    one x here false off = among-off q x xs off ∙ sym off

    each : (ys : List (List ℕ)) → AllByRecursion (λ x. list_any (bytes_eq x) xs ≡ true) ys → AllByRecursion (λ x. list_any (bytes_eq x) (filter q xs) ≡ q x) ys
    each [] h = tt
    each (y ∷ ys) h = (one y h.0 (q y) refl, each ys h.1)

after-order : (edit : Edit) (xs ys : List (List ℕ)) → ys ≡ names_after edit xs → AreDistinct ys
    → ys ≡ filter (λ x. list_any (bytes_eq x) ys) xs ++ filter (λ x. not (list_any (bytes_eq x) xs)) ys
after-order (AddGlyph g body) xs ys e d =
    subst (λ l. l ≡ filter (λ x. list_any (bytes_eq x) l) xs ++ filter (λ x. not (list_any (bytes_eq x) xs)) l) (sym e) (added-order xs g (subst AreDistinct e d))
after-order (RemoveGlyph g) xs ys e d =
    subst (λ l. l ≡ filter (λ x. list_any (bytes_eq x) l) xs ++ filter (λ x. not (list_any (bytes_eq x) xs)) l) (sym e) (removed-order xs (λ name. not (bytes_eq g name)))
after-order (ReplaceGlyph g body) xs ys e d = subst (λ l. l ≡ filter (λ x. list_any (bytes_eq x) l) xs ++ filter (λ x. not (list_any (bytes_eq x) xs)) l) (sym e) (same-order xs)
after-order (ReplaceSubr n body) xs ys e d = subst (λ l. l ≡ filter (λ x. list_any (bytes_eq x) l) xs ++ filter (λ x. not (list_any (bytes_eq x) xs)) l) (sym e) (same-order xs)
after-order (AddSubr n body) xs ys e d = subst (λ l. l ≡ filter (λ x. list_any (bytes_eq x) l) xs ++ filter (λ x. not (list_any (bytes_eq x) xs)) l) (sym e) (same-order xs)
after-order (RemoveSubr n) xs ys e d = subst (λ l. l ≡ filter (λ x. list_any (bytes_eq x) l) xs ++ filter (λ x. not (list_any (bytes_eq x) xs)) l) (sym e) (same-order xs)
after-order (Encode code g) xs ys e d = subst (λ l. l ≡ filter (λ x. list_any (bytes_eq x) l) xs ++ filter (λ x. not (list_any (bytes_eq x) xs)) l) (sym e) (same-order xs)
after-order (Unencode code) xs ys e d = subst (λ l. l ≡ filter (λ x. list_any (bytes_eq x) l) xs ++ filter (λ x. not (list_any (bytes_eq x) xs)) l) (sym e) (same-order xs)
after-order (LenIv n) xs ys e d = subst (λ l. l ≡ filter (λ x. list_any (bytes_eq x) l) xs ++ filter (λ x. not (list_any (bytes_eq x) xs)) l) (sym e) (same-order xs)
after-order (Kern left right v) xs ys e d = subst (λ l. l ≡ filter (λ x. list_any (bytes_eq x) l) xs ++ filter (λ x. not (list_any (bytes_eq x) xs)) l) (sym e) (same-order xs)
after-order (Unkern left right) xs ys e d = subst (λ l. l ≡ filter (λ x. list_any (bytes_eq x) l) xs ++ filter (λ x. not (list_any (bytes_eq x) xs)) l) (sym e) (same-order xs)

-- the glyphs of an edited source: those that are still there, in their order, then the new ones
abbrev pub IsInOrderAlone : SourceParts → SourceParts → Type 0
IsInOrderAlone old new =
    glyph_names new.items
    ≡ filter (has_glyph new) (glyph_names old.items) ++ filter (λ g. not (has_glyph old g)) (glyph_names new.items)

-- after an edit the glyphs that are still there come first, in their order
pub edited-order : (s : SourceParts) (k : List Pair) (edit : Edit) (made : SourceParts) (ps : List Pair) → IsWellFormed s → IsWellFormed made → edited s k edit ≡ Ok (made, ps)
    → IsInOrderAlone s made
edited-order s k edit made ps well well_made e =
    after-order edit (glyph_names s.items) (glyph_names made.items) (names_edited s k edit made ps well e) (names_distinct made well_made)
