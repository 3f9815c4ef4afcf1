-- The order of the glyphs under edits, one after another.
use Rattle.std.proofs.Common.{◌≡◌, ℕ, ℤ, pos, negsuc, Bool, true, false, not, cond, List, [], ◌∷◌, ◌++◌, filter, refl, sym, ◌∙◌, ap, subst}
use Rattle.std.specs.Prelude.{◌||◌, ◌&&◌}
use Rattle.std.specs.List.{list_any}
use Rattle.std.specs.Str.{bytes_eq}
use Rattle.std.proofs.Math.Bool.{and-false, and_comm, or-false, or-true}
use Rattle.std.proofs.lemmas.List.{append_assoc, append-nil}
use Rattle.std.proofs.lemmas.List.Elements.{filter-append}
use Rattle.std.proofs.lemmas.List.Folds.{list_any-append}
use Rattle.t1_source.specs.declared.edit.Edit.{Edit}
use Rattle.t1_source.specs.declared.edit.Edit.TheVariants.{ReplaceGlyph, AddGlyph, RemoveGlyph, ReplaceSubr, AddSubr, RemoveSubr, Encode, Unencode, LenIv, Kern, Unkern}
use Rattle.t1_cache.specs.Edited.{names_after}
use Rattle.t1_cache.specs.Laws.{AreDistinct}
use Rattle.t1_font.proofs.Lookups.{bytes-turned, bytes_tell}
use Rattle.t1_cache.proofs.Filtering.{filter-as, filter-all, filter-both, filter-none, filter-same, has-passing}
use Rattle.t1_run.specs.Run.{Key, Glyph}
use Rattle.t1_held.specs.Batch.{edited_entries}
use Rattle.t1_held.specs.Drafting.{added_last_first, names_back, was_added}

-- names after edits: those of before that are still there and weren't gone at any time, in their order, then the others
abbrev pub InOrder : (List ℕ → Bool) → List (List ℕ) → List (List ℕ) → Type 0
InOrder gone xs ys = ys ≡ filter (λ g. list_any (bytes_eq g) ys && not (gone g)) xs ++ filter (λ g. gone g || not (list_any (bytes_eq g) xs)) ys

-- ---- lists of names

filter-turned : (p q : List ℕ → Bool) (xs : List (List ℕ)) → filter q (filter p xs) ≡ filter p (filter q xs)
filter-turned p q xs =
    filter-both p q xs ∙ filter-as (λ g. p g && q g) (λ g. q g && p g) xs (λ g there. and_comm (p g) (q g)) ∙ sym (filter-both q p xs)

-- the last of distinct names isn't among the others
last-apart : (ys : List (List ℕ)) (g : List ℕ) → AreDistinct (ys ++ g ∷ []) → (x : List ℕ) → list_any (bytes_eq x) ys ≡ true → bytes_eq x g ≡ false
last-apart [] g d x there = absurd (cc)
last-apart (y ∷ ys) g d x there = by (bytes_eq x y) refl there (last-apart ys g d.1 x) where
  apart : bytes_eq x y ≡ true → (b : Bool) → bytes_eq x g ≡ b → bytes_eq x g ≡ false
  apart here false off = off
  apart here true on =
      let same : y ≡ g = sym (bytes_tell.same x y here) ∙ bytes_tell.same x g on in
      let never : true ≡ false =
      sym (list_any-append (bytes_eq y) ys (g ∷ [])
      ∙ ap (λ b. list_any (bytes_eq y) ys || (b || false)) (ap (bytes_eq y) (sym same) ∙ bytes_tell.itself y)
      ∙ or-true (list_any (bytes_eq y) ys))
      ∙ d.0
      in
      absurd (cc)

  by : (b : Bool) → bytes_eq x y ≡ b → (b || list_any (bytes_eq x) ys) ≡ true → (list_any (bytes_eq x) ys ≡ true → bytes_eq x g ≡ false) → bytes_eq x g ≡ false
  by true here there later = apart here (bytes_eq x g) refl
  by false off there later = later there

-- ---- one edit more

pub begins : (xs : List (List ℕ)) → InOrder (λ g. false) xs xs
begins xs =
    sym (ap (λ l. l ++ filter (λ g. false || not (list_any (bytes_eq g) xs)) xs)
    (filter-as (λ g. list_any (bytes_eq g) xs && not false) (λ g. true) xs (λ g there. ap (λ b. b && not false) there) ∙ filter-all xs)
    ∙ ap (λ l. xs ++ l)
    (filter-as (λ g. false || not (list_any (bytes_eq g) xs)) (λ g. false) xs (λ g there. ap not there) ∙ filter-none xs)
    ∙ append-nil xs)

-- a glyph more, which was added
one-more : (gone : List ℕ → Bool) (xs ys : List (List ℕ)) (g : List ℕ) → AreDistinct (ys ++ g ∷ []) → InOrder gone xs ys
    → InOrder (λ x. gone x || bytes_eq x g) xs (ys ++ g ∷ [])
one-more gone xs ys g distinct is =
    ap (λ l. l ++ g ∷ []) is
    ∙ append_assoc (filter stayed xs) (filter other ys) (g ∷ [])
    ∙ ap (λ l. l ++ (filter other ys ++ g ∷ [])) (filter-as stayed stays xs (λ x there. sym (stays-as x (bytes_eq x g) refl)))
    ∙ ap (λ l. filter stays xs ++ l)
    (ap (λ l. l ++ g ∷ []) (filter-as other others ys (λ x there. others-as x (last-apart ys g distinct x there)))
    ∙ ap (λ l. filter others ys ++ l) alone
    ∙ sym (filter-append others ys (g ∷ [])))
  where
    stayed : List ℕ → Bool
    stayed x = list_any (bytes_eq x) ys && not (gone x)

    stays : List ℕ → Bool
    stays x = list_any (bytes_eq x) (ys ++ g ∷ []) && not (gone x || bytes_eq x g)

    other : List ℕ → Bool
    other x = gone x || not (list_any (bytes_eq x) xs)

    others : List ℕ → Bool
    others x = (gone x || bytes_eq x g) || not (list_any (bytes_eq x) xs)

    not-there : (x : List ℕ) → bytes_eq x g ≡ true → (b : Bool) → list_any (bytes_eq x) ys ≡ b → list_any (bytes_eq x) ys ≡ false
    not-there x on false e = e
    not-there x on true e = let never : true ≡ false = sym on ∙ last-apart ys g distinct x e in absurd (cc)

    stays-as : (x : List ℕ) (b : Bool) → bytes_eq x g ≡ b → stays x ≡ stayed x
    stays-as x true on =
        ap (λ b. list_any (bytes_eq x) (ys ++ g ∷ []) && not (gone x || b)) on
        ∙ ap (λ b. list_any (bytes_eq x) (ys ++ g ∷ []) && not b) (or-true (gone x))
        ∙ and-false (list_any (bytes_eq x) (ys ++ g ∷ []))
        ∙ sym (ap (λ b. b && not (gone x)) (not-there x on (list_any (bytes_eq x) ys) refl))
    stays-as x false off =
        ap (λ b. b && not (gone x || bytes_eq x g))
        (list_any-append (bytes_eq x) ys (g ∷ []) ∙ ap (λ b. list_any (bytes_eq x) ys || (b || false)) off ∙ or-false (list_any (bytes_eq x) ys))
        ∙ ap (λ b. list_any (bytes_eq x) ys && not b) (ap (λ b. gone x || b) off ∙ or-false (gone x))

    others-as : (x : List ℕ) → bytes_eq x g ≡ false → other x ≡ others x
    others-as x off = ap (λ b. b || not (list_any (bytes_eq x) xs)) (sym (ap (λ b. gone x || b) off ∙ or-false (gone x)))

    alone : g ∷ [] ≡ filter others (g ∷ [])
    alone =
        sym (ap (λ b. cond b (g ∷ []) [])
        (ap (λ b. b || not (list_any (bytes_eq g) xs)) (ap (λ b. gone g || b) (bytes_tell.itself g) ∙ or-true (gone g))))

-- glyphs less
some-less : (gone : List ℕ → Bool) (xs ys : List (List ℕ)) (q : List ℕ → Bool) → InOrder gone xs ys → InOrder gone xs (filter q ys)
some-less gone xs ys q is =
    ap (filter q) is
    ∙ filter-append q (filter stayed xs) (filter other ys)
    ∙ ap (λ l. l ++ filter q (filter other ys)) (filter-both stayed q xs ∙ filter-as (λ g. stayed g && q g) stays xs (λ g there. stays-as g))
    ∙ ap (λ l. filter stays xs ++ l) (filter-turned other q ys)
  where
    stayed : List ℕ → Bool
    stayed g = list_any (bytes_eq g) ys && not (gone g)

    stays : List ℕ → Bool
    stays g = list_any (bytes_eq g) (filter q ys) && not (gone g)

    other : List ℕ → Bool
    other g = gone g || not (list_any (bytes_eq g) xs)

    moved : (a b c : Bool) → ((a && b) && c) ≡ ((a && c) && b)
    moved true b c = and_comm b c
    moved false b c = refl

    stays-as : (g : List ℕ) → (stayed g && q g) ≡ stays g
    stays-as g = moved (list_any (bytes_eq g) ys) (not (gone g)) (q g) ∙ ap (λ b. b && not (gone g)) (sym (has-passing q g ys))

-- the same glyphs are gone
pub order-as : (gone now : List ℕ → Bool) (xs ys : List (List ℕ)) → ((g : List ℕ) → gone g ≡ now g) → InOrder gone xs ys → InOrder now xs ys
order-as gone now xs ys same is = subst (λ p. InOrder p xs ys) (λ j. λ g. same g j) is

added-here : (g x : List ℕ) (body : List ℕ) → bytes_eq x g ≡ was_added (edited_entries (AddGlyph g body)) x
added-here g x body = sym (or-false (bytes_eq x g))

subr-not : (v : ℤ) (body g : List ℕ) → was_added (edited_entries (AddSubr v body)) g ≡ false
subr-not (pos n) body g = refl
subr-not (negsuc n) body g = refl

replaced-not : (v : ℤ) (body g : List ℕ) → was_added (edited_entries (ReplaceSubr v body)) g ≡ false
replaced-not (pos n) body g = refl
replaced-not (negsuc n) body g = refl

removed-not : (v : ℤ) (g : List ℕ) → was_added (edited_entries (RemoveSubr v)) g ≡ false
removed-not (pos n) g = refl
removed-not (negsuc n) g = refl

pub edit-order : (edit : Edit) (gone : List ℕ → Bool) (xs ys zs : List (List ℕ)) → zs ≡ names_after edit ys → AreDistinct zs → InOrder gone xs ys
    → InOrder (λ g. gone g || was_added (edited_entries edit) g) xs zs
edit-order edit gone xs ys zs after distinct is =
    subst (InOrder (λ g. gone g || was_added (edited_entries edit) g) xs) (sym after) (by edit (subst AreDistinct after distinct))
  where
    still : (edit : Edit) (zs : List (List ℕ)) → ((g : List ℕ) → was_added (edited_entries edit) g ≡ false) → InOrder gone xs zs
        → InOrder (λ g. gone g || was_added (edited_entries edit) g) xs zs
    still edit zs none = order-as gone (λ g. gone g || was_added (edited_entries edit) g) xs zs (λ g. sym (ap (λ b. gone g || b) (none g) ∙ or-false (gone g)))

    by : (edit : Edit) → AreDistinct (names_after edit ys) → InOrder (λ g. gone g || was_added (edited_entries edit) g) xs (names_after edit ys)
    by (AddGlyph g body) d =
        order-as (λ x. gone x || bytes_eq x g) (λ x. gone x || was_added (edited_entries (AddGlyph g body)) x) xs (ys ++ g ∷ [])
        (λ x. ap (λ b. gone x || b) (added-here g x body)) (one-more gone xs ys g d is)
    by (RemoveGlyph g) d = still (RemoveGlyph g) (filter (λ name. not (bytes_eq g name)) ys) (λ x. refl) (some-less gone xs ys (λ name. not (bytes_eq g name)) is)
    by (ReplaceGlyph g body) d = still (ReplaceGlyph g body) ys (λ x. refl) is
    by (ReplaceSubr n body) d = still (ReplaceSubr n body) ys (replaced-not n body) is
    by (AddSubr n body) d = still (AddSubr n body) ys (subr-not n body) is
    by (RemoveSubr n) d = still (RemoveSubr n) ys (removed-not n) is
    by (Encode code g) d = still (Encode code g) ys (λ x. refl) is
    by (Unencode code) d = still (Unencode code) ys (λ x. refl) is
    by (LenIv n) d = still (LenIv n) ys (λ x. refl) is
    by (Kern left right v) d = still (Kern left right v) ys (λ x. refl) is
    by (Unkern left right) d = still (Unkern left right) ys (λ x. refl) is

-- ---- the glyphs that stand last

-- the names of the glyphs that weren't there before, or were gone, are those of a list that are there, in its order
abbrev pub InTurn : (List ℕ → Bool) → List (List ℕ) → List (List ℕ) → List (List ℕ) → Type 0
InTurn gone xs ys ls = filter (λ g. gone g || not (list_any (bytes_eq g) xs)) ys ≡ filter (λ g. list_any (bytes_eq g) ys) ls

pub none-in-turn : (xs : List (List ℕ)) → InTurn (λ g. false) xs xs []
none-in-turn xs = filter-as (λ g. false || not (list_any (bytes_eq g) xs)) (λ g. false) xs (λ g there. ap not there) ∙ filter-none xs

-- a glyph more, which was added
turn-more : (gone : List ℕ → Bool) (xs ys ls : List (List ℕ)) (g : List ℕ) → AreDistinct (ys ++ g ∷ []) → InTurn gone xs ys ls
    → InTurn (λ x. gone x || bytes_eq x g) xs (ys ++ g ∷ []) (filter (λ x. not (bytes_eq g x)) ls ++ g ∷ [])
turn-more gone xs ys ls g distinct is =
    filter-append others ys (g ∷ [])
    ∙ ap (λ l. l ++ filter others (g ∷ [])) (filter-as others other ys (λ x there. others-as x (last-apart ys g distinct x there)) ∙ is)
    ∙ ap (λ l. filter there-before ls ++ l) here
    ∙ ap (λ l. l ++ filter there-now (g ∷ [])) (filter-same there-before apart ls (λ x. stays x (bytes_eq g x) refl) ∙ sym (filter-both (λ x. not (bytes_eq g x)) there-now ls))
    ∙ sym (filter-append there-now (filter (λ x. not (bytes_eq g x)) ls) (g ∷ []))
  where
    other : List ℕ → Bool
    other x = gone x || not (list_any (bytes_eq x) xs)

    others : List ℕ → Bool
    others x = (gone x || bytes_eq x g) || not (list_any (bytes_eq x) xs)

    there-before : List ℕ → Bool
    there-before x = list_any (bytes_eq x) ys

    there-now : List ℕ → Bool
    there-now x = list_any (bytes_eq x) (ys ++ g ∷ [])

    apart : List ℕ → Bool
    apart x = not (bytes_eq g x) && there-now x

    others-as : (x : List ℕ) → bytes_eq x g ≡ false → others x ≡ other x
    others-as x off = ap (λ b. b || not (list_any (bytes_eq x) xs)) (ap (λ b. gone x || b) off ∙ or-false (gone x))

    new : there-now g ≡ true
    new = list_any-append (bytes_eq g) ys (g ∷ []) ∙ ap (λ b. there-before g || (b || false)) (bytes_tell.itself g) ∙ or-true (there-before g)

    here : filter others (g ∷ []) ≡ filter there-now (g ∷ [])
    here =
        ap (λ b. cond b (g ∷ []) [])
        (ap (λ b. b || not (list_any (bytes_eq g) xs)) (ap (λ b. gone g || b) (bytes_tell.itself g) ∙ or-true (gone g)) ∙ sym new)

    not-before : (b : Bool) → there-before g ≡ b → there-before g ≡ false
    not-before false e = e
    not-before true e = let never : true ≡ false = sym (bytes_tell.itself g) ∙ last-apart ys g distinct g e in absurd (cc)

    stays : (x : List ℕ) (b : Bool) → bytes_eq g x ≡ b → there-before x ≡ apart x
    stays x true on =
        ap there-before (sym (bytes_tell.same g x on)) ∙ not-before (there-before g) refl ∙ sym (ap (λ b. not b && there-now x) on)
    stays x false off =
        sym (or-false (there-before x)) ∙ ap (λ b. there-before x || (b || false)) (sym (bytes-turned x g ∙ off))
        ∙ sym (list_any-append (bytes_eq x) ys (g ∷ [])) ∙ sym (ap (λ b. not b && there-now x) off)

-- glyphs less
turn-less : (gone : List ℕ → Bool) (xs ys ls : List (List ℕ)) (q : List ℕ → Bool) → InTurn gone xs ys ls → InTurn gone xs (filter q ys) ls
turn-less gone xs ys ls q is =
    filter-turned q (λ g. gone g || not (list_any (bytes_eq g) xs)) ys
    ∙ ap (filter q) is
    ∙ filter-both (λ g. list_any (bytes_eq g) ys) q ls
    ∙ filter-same (λ g. list_any (bytes_eq g) ys && q g) (λ g. list_any (bytes_eq g) (filter q ys)) ls (λ g. sym (has-passing q g ys))

-- the same glyphs are gone
pub turn-as : (gone now : List ℕ → Bool) (xs ys ls : List (List ℕ)) → ((g : List ℕ) → gone g ≡ now g) → InTurn gone xs ys ls → InTurn now xs ys ls
turn-as gone now xs ys ls same is = subst (λ p. InTurn p xs ys ls) (λ j. λ g. same g j) is

subr-added-back : (v : ℤ) (body : List ℕ) (ks : List Key) → names_back (added_last_first (edited_entries (AddSubr v body)) ++ ks) ≡ names_back ks
subr-added-back (pos n) body ks = refl
subr-added-back (negsuc n) body ks = refl

subr-replaced-back : (v : ℤ) (body : List ℕ) (ks : List Key) → names_back (added_last_first (edited_entries (ReplaceSubr v body)) ++ ks) ≡ names_back ks
subr-replaced-back (pos n) body ks = refl
subr-replaced-back (negsuc n) body ks = refl

subr-removed-back : (v : ℤ) (ks : List Key) → names_back (added_last_first (edited_entries (RemoveSubr v)) ++ ks) ≡ names_back ks
subr-removed-back (pos n) ks = refl
subr-removed-back (negsuc n) ks = refl

pub edit-turn : (edit : Edit) (gone : List ℕ → Bool) (xs ys zs : List (List ℕ)) (ks : List Key) → zs ≡ names_after edit ys → AreDistinct zs → InTurn gone xs ys (names_back ks)
    → InTurn (λ g. gone g || was_added (edited_entries edit) g) xs zs (names_back (added_last_first (edited_entries edit) ++ ks))
edit-turn edit gone xs ys zs ks after distinct is =
    subst (λ l. InTurn (λ g. gone g || was_added (edited_entries edit) g) xs l (names_back (added_last_first (edited_entries edit) ++ ks))) (sym after)
    (by edit (subst AreDistinct after distinct))
  where
    Turned : Edit → List (List ℕ) → Type 0
    Turned edit l = InTurn (λ g. gone g || was_added (edited_entries edit) g) xs l (names_back (added_last_first (edited_entries edit) ++ ks))

    still : (edit : Edit) (l : List (List ℕ)) → ((g : List ℕ) → was_added (edited_entries edit) g ≡ false)
        → names_back (added_last_first (edited_entries edit) ++ ks) ≡ names_back ks → InTurn gone xs l (names_back ks) → Turned edit l
    still edit l none back was =
        turn-as gone (λ g. gone g || was_added (edited_entries edit) g) xs l (names_back (added_last_first (edited_entries edit) ++ ks))
        (λ g. sym (ap (λ b. gone g || b) (none g) ∙ or-false (gone g)))
        (subst (InTurn gone xs l) (sym back) was)

    by : (edit : Edit) → AreDistinct (names_after edit ys) → Turned edit (names_after edit ys)
    by (AddGlyph g body) d =
        turn-as (λ x. gone x || bytes_eq x g) (λ x. gone x || was_added (edited_entries (AddGlyph g body)) x) xs (ys ++ g ∷ []) (names_back (Glyph g ∷ ks))
        (λ x. ap (λ b. gone x || b) (added-here g x body)) (turn-more gone xs ys (names_back ks) g d is)
    by (RemoveGlyph g) d = still (RemoveGlyph g) (filter (λ name. not (bytes_eq g name)) ys) (λ x. refl) refl (turn-less gone xs ys (names_back ks) (λ name. not (bytes_eq g name)) is)
    by (ReplaceGlyph g body) d = still (ReplaceGlyph g body) ys (λ x. refl) refl is
    by (ReplaceSubr n body) d = still (ReplaceSubr n body) ys (replaced-not n body) (subr-replaced-back n body ks) is
    by (AddSubr n body) d = still (AddSubr n body) ys (subr-not n body) (subr-added-back n body ks) is
    by (RemoveSubr n) d = still (RemoveSubr n) ys (removed-not n) (subr-removed-back n ks) is
    by (Encode code g) d = still (Encode code g) ys (λ x. refl) refl is
    by (Unencode code) d = still (Unencode code) ys (λ x. refl) refl is
    by (LenIv n) d = still (LenIv n) ys (λ x. refl) refl is
    by (Kern left right v) d = still (Kern left right v) ys (λ x. refl) refl is
    by (Unkern left right) d = still (Unkern left right) ys (λ x. refl) refl is
