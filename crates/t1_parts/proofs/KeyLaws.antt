-- Sets of keys beside a list of items that grows.
use Rattle.std.proofs.Common.{◌≡◌, ℕ, Bool, true, false, ◌||◌, ◌==◌, Some, None, List, [], ◌∷◌, ◌++◌, refl, sym, ◌∙◌, ap, arith, inl, inr}
use Rattle.std.specs.Borrow.{Bor}
use Rattle.std.specs.List.{list_any}
use Rattle.std.specs.Ordering.{nat_cmp, is_eq, match_ordering}
use Rattle.std.specs.BTreeSet.{insert_key}
use Rattle.std.specs.Cmp.{nat_cmp_total, alike_right}
use Rattle.std.specs.Str.{bytes_eq}
use Rattle.std.specs.declared.cmp.Ordering.{Ordering}
use Rattle.std.specs.declared.cmp.Ordering.TheVariants.{Less, Equal, Greater}
use Rattle.std.proofs.lemmas.Bool.{cases_Bool}
use Rattle.std.proofs.lemmas.List.Folds.{list_any-append}
use Rattle.std.proofs.lemmas.Slice.Eq.{bytes_eq-Decides}
use Rattle.std.proofs.Math.Bool.{or-false}
use Rattle.indexmap.specs.IndexSet.{insert_key as put_in}
use Rattle.t1_parts.specs.declared.item.Item.{Item}
use Rattle.t1_parts.specs.declared.item.Item.TheVariants.{Plain, Section, Subr, Glyph}
use Rattle.t1_parts.specs.Entries.{NumberedItem, has_numbered, is_subr, is_glyph}
use Rattle.t1_parts.specs.EntryNames.{glyph_name}
use Rattle.t1_parts.specs.Gathered.{HasNumbers, AreGlyphsNames}

-- an equal key is there already
stays : (b c : Bool) → (b || c) ≡ ((b || c) || b)
stays true c = refl
stays false true = refl
stays false false = refl

comes_last : (a b : Bool) → (a || b) ≡ (b || a)
comes_last true true = refl
comes_last true false = refl
comes_last false true = refl
comes_last false false = refl

goes_in : (a b c : Bool) → (a || (b || c)) ≡ ((a || b) || c)
goes_in true b c = refl
goes_in false b c = refl

-- the insertion at the front of some keys, by the order found there
any_put : {K : Type 0} (t : K → Bool) (k x : K) (xs more : List K) (o : Ordering) → (o ≡ Equal → t k ≡ t x) → list_any t more ≡ (list_any t xs || t k)
    → list_any t (match_ordering o (k ∷ x ∷ xs) (x ∷ xs) (x ∷ more)) ≡ (list_any t (x ∷ xs) || t k)
any_put t k x xs more Less alike e = comes_last (t k) (list_any t (x ∷ xs))
any_put t k x xs more Equal alike e = rw (alike refl) (stays (t x) (list_any t xs))
any_put t k x xs more Greater alike e = rw e (goes_in (t x) (list_any t xs) (t k))

-- a test that equal keys pass alike, on the keys and a further one
pub any_insert : {K : Type 0} (cmp : K → K → Ordering) (t : K → Bool) (k : K) → ((x : K) → cmp k x ≡ Equal → t k ≡ t x) → (ks : List K)
    → list_any t (insert_key cmp ks k) ≡ (list_any t ks || t k)
any_insert cmp t k alike [] = or-false (t k)
any_insert cmp t k alike (x ∷ xs) = any_put t k x xs (insert_key cmp xs k) (cmp k x) (alike x) (any_insert cmp t k alike xs)

-- a further item
pub has_more : (test : Item → Bool) (items : List NumberedItem) (n : ℕ) (item : Item) → has_numbered test (items ++ (n, item) ∷ []) ≡ (has_numbered test items || test item)
has_more test items n item = list_any-append (λ i. test i.1) items ((n, item) ∷ []) ∙ ap (λ b. has_numbered test items || b) (or-false (test item))

equal_numbers : (a b : ℕ) → is_eq (nat_cmp a b) ≡ (a == b)
equal_numbers a b = grind arith

-- the numbers, with that of a further Subr
pub more_numbers : (ks new : List ℕ) (items : List NumberedItem) (n k : ℕ) (ws : List (List ℕ)) (closing : List ℕ) (item : Item) → item ≡ Subr k ws closing → new ≡ insert_key nat_cmp ks k
    → HasNumbers ks items → HasNumbers new (items ++ (n, item) ∷ [])
more_numbers ks new items n k ws closing item is keys h m =
    ap (list_any (λ x. is_eq (nat_cmp m x))) keys
    ∙ any_insert nat_cmp (λ x. is_eq (nat_cmp m x)) k (λ x e. ap is_eq (alike_right nat_cmp_total k x m e)) ks
    ∙ ap (λ b. b || is_eq (nat_cmp m k)) (h m)
    ∙ ap (λ b. has_numbered (is_subr m) items || b) (equal_numbers m k ∙ sym (ap (is_subr m) is))
    ∙ sym (has_more (is_subr m) items n item)

-- a name that is put in is among the names
name-inserted : (g : List ℕ) (k : Bor (List ℕ)) (ks : List (Bor (List ℕ)))
    → list_any (λ x. bytes_eq g x.now) (put_in (λ x y. bytes_eq x.now y.now) ks k) ≡ (list_any (λ x. bytes_eq g x.now) ks || bytes_eq g k.now)
name-inserted g k ks =
    elim (cases_Bool (list_any (λ x. bytes_eq k.now x.now) ks)) [
      | inl there ↦
          rw there
          (elim (cases_Bool (bytes_eq g k.now)) [
            | inl same ↦ rw (same, (bytes_eq-Decides g k.now).0 same, there) refl
            | inr other ↦ rw other (sym (or-false (list_any (λ x. bytes_eq g x.now) ks)))
          ])
      | inr absent ↦
          rw absent (
          list_any-append (λ x. bytes_eq g x.now) ks (k ∷ [])
          ∙ ap (λ b. list_any (λ x. bytes_eq g x.now) ks || b) (or-false (bytes_eq g k.now)))
    ]

-- an item that has a name is the glyph of this name
named_glyph : (item : Item) (g h : List ℕ) → glyph_name item ≡ Some h → is_glyph g item ≡ bytes_eq g h
named_glyph (Glyph k ws closing) g h e = let same : k ≡ h = cc in ap (bytes_eq g) same
named_glyph (Subr k ws closing) g h e = absurd (cc)
named_glyph (Plain l) g h e = absurd (cc)
named_glyph (Section before count after) g h e = absurd (cc)

pub unnamed_item : (item : Item) (g : List ℕ) → glyph_name item ≡ None → is_glyph g item ≡ false
unnamed_item (Glyph k ws closing) g e = absurd (cc)
unnamed_item (Subr k ws closing) g e = refl
unnamed_item (Plain l) g e = refl
unnamed_item (Section before count after) g e = refl

-- the names, with that of a further glyph
pub more_names : (ks new : List (Bor (List ℕ))) (items : List NumberedItem) (n : ℕ) (k : Bor (List ℕ)) (item : Item)
    → glyph_name item ≡ Some k.now → new ≡ put_in (λ x y. bytes_eq x.now y.now) ks k
    → AreGlyphsNames ks items → AreGlyphsNames new (items ++ (n, item) ∷ [])
more_names ks new items n k item named keys h m =
    ap (list_any (λ x. bytes_eq m x.now)) keys
    ∙ name-inserted m k ks
    ∙ ap (λ b. b || bytes_eq m k.now) (h m)
    ∙ ap (λ b. has_numbered (is_glyph m) items || b) (sym (named_glyph item m k.now named))
    ∙ sym (has_more (is_glyph m) items n item)

-- an item that is of no kind
pub same_has : (test : Item → Bool) (items : List NumberedItem) (n : ℕ) (item : Item) → test item ≡ false → has_numbered test items ≡ has_numbered test (items ++ (n, item) ∷ [])
same_has test items n item e = sym (has_more test items n item ∙ ap (λ b. has_numbered test items || b) e ∙ or-false (has_numbered test items))

-- a test of a further item joined to that of the items
pub or_more : (test : Item → Bool) (items : List NumberedItem) (n : ℕ) (item : Item) (b d : Bool) → b ≡ has_numbered test items → d ≡ test item → (b || d) ≡ has_numbered test (items ++ (n, item) ∷ [])
or_more test items n item b d p q = ap (λ x. x || d) p ∙ ap (λ x. has_numbered test items || x) q ∙ sym (has_more test items n item)

-- the keys, where no key comes with the item
pub same_numbers : (ks new : List ℕ) (items : List NumberedItem) (n : ℕ) (item : Item) → ((m : ℕ) → is_subr m item ≡ false) → new ≡ ks → HasNumbers ks items → HasNumbers new (items ++ (n, item) ∷ [])
same_numbers ks new items n item none keys h m =
    ap (list_any (λ x. is_eq (nat_cmp m x))) keys ∙ h m ∙ same_has (is_subr m) items n item (none m)

pub same_names : (ks new : List (Bor (List ℕ))) (items : List NumberedItem) (n : ℕ) (item : Item) → ((g : List ℕ) → is_glyph g item ≡ false) → new ≡ ks → AreGlyphsNames ks items → AreGlyphsNames new (items ++ (n, item) ∷ [])
same_names ks new items n item none keys h g =
    ap (list_any (λ x. bytes_eq g x.now)) keys ∙ h g ∙ same_has (is_glyph g) items n item (none g)
