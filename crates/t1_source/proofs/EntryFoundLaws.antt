-- Entries of a source that is kept: no two have the same key; and through which item a section goes.
use Rattle.std.proofs.Common.{◌≡◌, ◌<◌, ◌+◌, true, false, ◌||◌, Bool, ℕ, zero, suc, Some, List, [], ◌∷◌, ◌++◌, length, take, drop, refl, sym, ◌∙◌, ap, arith, length-append}
use Rattle.std.specs.List.{list_any, position, slice_index_or}
use Rattle.std.proofs.lemmas.Bool.{eqb-true}
use Rattle.std.proofs.lemmas.Slice.Eq.{bytes_eq-Decides}
use Rattle.t1_parts.specs.declared.entry_key.EntryKey.{EntryKey}
use Rattle.t1_parts.specs.declared.entry_key.EntryKey.TheVariants.{Number, Name}
use Rattle.t1_parts.specs.declared.entry_key.ItemKind.TheVariants as kinds
use Rattle.t1_parts.specs.declared.item.Item.{Item}
use Rattle.t1_parts.specs.declared.item.Item.TheVariants.{Plain, Section, Subr, Glyph}
use Rattle.t1_parts.specs.EntryKeys.{is_any_subr, is_entry_of, is_of_kind, IsEntryAt, IsThrough}
use Rattle.t1_parts.specs.Entries.{is_subr, is_glyph}
use Rattle.t1_parts.specs.SourceParts.{SourceParts}
use Rattle.t1_parts.specs.Sections.{is_subrs_line}
use Rattle.t1_source.specs.Editing.{among_glyphs_items, among_subrs_items, is_subr_entry, through_last}
use Rattle.t1_source.specs.WellFormed.{Stand, Stands, IsPrivate, IsWellFormed}
use Rattle.t1_parts.proofs.PartLaws.{cut_position}
use Rattle.t1_source.proofs.ItemPlaceLaws.{before_last, none_through, through_place}
use Rattle.t1_source.proofs.StandLaws.{stand_back}

-- ---- a list around the element of a place

around : {X : Type 0} (at : ℕ) (xs : List X) (d : X) → at < length xs → (xs ≡ take at xs ++ slice_index_or xs at d ∷ drop (suc at) xs) × (length (take at xs) ≡ at)
around at [] d h = absurd (omega (arith, h))
around zero (x ∷ xs) d h = (refl, refl)
around (suc at) (x ∷ xs) d h = let r = around at xs d (omega (arith, h)) in (ap (λ t. x ∷ t) r.0, omega (arith, r.1))

-- ---- an entry is the only one of its key

last_entry : (key : EntryKey) (l : List ℕ) → is_entry_of key (Plain l) ≡ false
last_entry (Number n) l = refl
last_entry (Name g) l = refl

-- none of the items before it has its key
none_before : (key : EntryKey) (a : List Item) (x : Item) → Stands a x → is_entry_of key x ≡ true → list_any (is_entry_of key) a ≡ false
none_before (Number n) a (Plain l) h on = cc
none_before (Number n) a (Section before k after) h on = cc
none_before (Number n) a (Subr m ws closing) h on = ap (λ k. list_any (is_subr k) a) (eqb-true n m on) ∙ h.2
none_before (Number n) a (Glyph g ws closing) h on = cc
none_before (Name g) a (Plain l) h on = cc
none_before (Name g) a (Section before k after) h on = cc
none_before (Name g) a (Subr m ws closing) h on = cc
none_before (Name g) a (Glyph name ws closing) h on = ap (λ k. list_any (is_glyph k) a) ((bytes_eq-Decides g.now name).0 on) ∙ h.1

-- so it is the first one
first_private : (key : EntryKey) (items : List Item) (at : ℕ) → IsPrivate items → IsEntryAt key items at → position (is_entry_of key) items ≡ Some at
first_private key items at p there =
    let d = Plain [] in
    let x = slice_index_or items at d in
    let split = around at items d there.0 in
    let a = take at items in
    let b = drop (suc at) items in
    let on : is_entry_of key x ≡ true = there.1 d in
    let r = before_last (is_entry_of key) p.inner (Plain p.closefile) a x b (last_entry key p.closefile) on (sym p.whole ∙ split.0) in
    let stand : Stand [] (a ++ x ∷ r.0) = rw r.2 at p.stand in
    let back = stand_back [] a (x ∷ r.0) stand in
    ap (position (is_entry_of key)) split.0 ∙ cut_position (is_entry_of key) a x b (none_before key a x back.0 on) on ∙ ap Some split.1

pub first_entry : (key : EntryKey) (s : SourceParts) (at : ℕ) → IsWellFormed s → IsEntryAt key s.items at → position (is_entry_of key) s.items ≡ Some at
first_entry key s at well there = first_private key s.items at well.items there

-- ---- through the last item of a section

pub through_last_is : (test : Item → Bool) (xs : List Item) (n : ℕ) → IsThrough test xs n → n ≡ through_last test xs
through_last_is test xs zero h = sym (none_through test xs h.1)
through_last_is test xs (suc m) h =
    let d = Plain [] in
    let split = around m xs d (omega (arith, h.0)) in
    let next : suc m ≡ m + 1 = omega arith in
    let on = h.2 m d next in
    let x = slice_index_or xs m d in
    let place = ap (through_last test) split.0 ∙ through_place test (take m xs) x (drop (suc m) xs) on h.1 in
    let size = length-append (take m xs) (x ∷ []) in
    omega (arith, place, size, split.1)

any_subr : (i : Item) → is_any_subr i ≡ is_subr_entry i
any_subr (Plain l) = refl
any_subr (Section before n after) = refl
any_subr (Subr n ws closing) = refl
any_subr (Glyph g ws closing) = refl

in_subrs : (i : Item) → is_of_kind kinds.Subrs i ≡ among_subrs_items i
unfolding among_subrs_items
in_subrs i = ap (λ b. b || is_subrs_line i) (any_subr i)

in_glyphs : (i : Item) → is_of_kind kinds.Glyphs i ≡ among_glyphs_items i
unfolding among_glyphs_items
in_glyphs i = refl

pub through_subrs_is : (xs : List Item) → through_last (is_of_kind kinds.Subrs) xs ≡ through_last among_subrs_items xs
through_subrs_is xs = ap (λ test. through_last test xs) (λ j. λ i. in_subrs i j)

pub through_glyphs_is : (xs : List Item) → through_last (is_of_kind kinds.Glyphs) xs ≡ through_last among_glyphs_items xs
through_glyphs_is xs = ap (λ test. through_last test xs) (λ j. λ i. in_glyphs i j)
