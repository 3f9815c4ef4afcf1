-- The items of a source after a change, in three parts.
use Rattle.std.proofs.Common.{◌≡◌, ◌+◌, ◌<◌, ◌≤◌, max, ℕ, zero, suc, Bool, true, false, cond, List, [], ◌∷◌, ◌++◌, filter, length, take, drop, add-one, inl, inr, refl, ap, Option, None, Some, arith}
use Rattle.std.specs.Prelude.{◌||◌, codes, is_some, unwrap_or}
use Rattle.std.proofs.lemmas.Bool.{cases_Bool}
use Rattle.std.specs.Option.{option_and_then}
use Rattle.std.specs.List.{find, list_any, remove, slice_set}
use Rattle.t1_parts.specs.declared.item.Item.{Item}
use Rattle.t1_parts.specs.declared.item.Item.TheVariants.{Plain, Section, Subr, Glyph}
use Rattle.t1_parts.specs.Counts.{raised, subrs_needed}
use Rattle.t1_parts.specs.SourceParts.{SourceParts}
use Rattle.t1_source.specs.declared.editing.Change.{Change}
use Rattle.t1_source.specs.declared.editing.Change.TheVariants as changes
use Rattle.t1_source.specs.Changes.{changed}
use Rattle.t1_source.specs.EditedItems.{items_after}
use Rattle.t1_source.specs.WellFormed.{IsWellFormed}
use Rattle.t1_parts.specs.LenIV.{lead_among, plain_line, said_lead, says_lead}
use Rattle.t1_parts.specs.Operator.{operator_among, operator_on, reads_strings}
use Rattle.t1_parts.specs.Stretches.{line_says, stands_alone}

-- ---- an item put in the place of another

put-past : (is : List Item) (at : ℕ) (x : Item) → at < length is → take at is ++ (x ∷ drop (suc at) is) ≡ slice_set is at x
put-past [] at x h = absurd (omega (arith, h))
put-past (i ∷ is) zero x h = refl
put-past (i ∷ is) (suc at) x h = ap (λ l. i ∷ l) (put-past is at x (omega (arith, h)))

pub put-parts : (is : List Item) (at : ℕ) (x : Item) → at < length is → take at is ++ (x ∷ drop (at + 1) is) ≡ slice_set is at x
put-parts is at x h = rw add-one (put-past is at x h)

pub put-none : (is : List Item) (at : ℕ) (x : Item) → length is ≤ at → is ≡ slice_set is at x
put-none [] at x h = refl
put-none (i ∷ is) zero x h = absurd (omega (arith, h))
put-none (i ∷ is) (suc at) x h = ap (λ l. i ∷ l) (put-none is at x (omega (arith, h)))

-- ---- an item taken out

remove-past : (is : List Item) (at : ℕ) → at < length is → take at is ++ drop (suc at) is ≡ remove is at
remove-past [] at h = absurd (omega (arith, h))
remove-past (i ∷ is) zero h = refl
remove-past (i ∷ is) (suc at) h = ap (λ l. i ∷ l) (remove-past is at (omega (arith, h)))

pub remove-parts : (is : List Item) (at : ℕ) → at < length is → take at is ++ drop (at + 1) is ≡ remove is at
remove-parts is at h = rw add-one (remove-past is at h)

pub remove-none : (is : List Item) (at : ℕ) → length is ≤ at → is ≡ remove is at
remove-none [] zero h = refl
remove-none [] (suc at) h = refl
remove-none (i ∷ is) zero h = absurd (omega (arith, h))
remove-none (i ∷ is) (suc at) h = ap (λ l. i ∷ l) (remove-none is at (omega (arith, h)))

-- ---- the first part that says something decides

pub lead-first : (a b : List Item) → list_any says_lead a ≡ true → lead_among (a ++ b) ≡ lead_among a
lead-first [] b h = absurd (cc)
lead-first (i ∷ a) b h = by (said_lead i) refl h (lead-first a b) where
  by : (r : Option (Option (List ℕ))) → said_lead i ≡ r → (is_some r || list_any says_lead a) ≡ true
      → (list_any says_lead a ≡ true → lead_among (a ++ b) ≡ lead_among a) → lead_among (i ∷ (a ++ b)) ≡ lead_among (i ∷ a)
  by (Some t) is h rest = rw is refl
  by None is h rest = rw is (rest h)

pub lead-later : (a b : List Item) → list_any says_lead a ≡ false → lead_among (a ++ b) ≡ lead_among b
lead-later [] b h = refl
lead-later (i ∷ a) b h = by (said_lead i) refl h (lead-later a b) where
  by : (r : Option (Option (List ℕ))) → said_lead i ≡ r → (is_some r || list_any says_lead a) ≡ false
      → (list_any says_lead a ≡ false → lead_among (a ++ b) ≡ lead_among b) → lead_among (i ∷ (a ++ b)) ≡ lead_among b
  by (Some t) is h rest = absurd (cc)
  by None is h rest = rw is (rest h)

find-first : (test : Item → Bool) (a b : List Item) → list_any test a ≡ true → find test (a ++ b) ≡ find test a
find-first test [] b h = absurd (cc)
find-first test (i ∷ a) b h = by (test i) h (find-first test a b) where
  by : (t : Bool) → (t || list_any test a) ≡ true → (list_any test a ≡ true → find test (a ++ b) ≡ find test a)
      → cond t (Some i) (find test (a ++ b)) ≡ cond t (Some i) (find test a)
  by true h rest = refl
  by false h rest = rest h

find-later : (test : Item → Bool) (a b : List Item) → list_any test a ≡ false → find test (a ++ b) ≡ find test b
find-later test [] b h = refl
find-later test (i ∷ a) b h = by (test i) h (find-later test a b) where
  by : (t : Bool) → (t || list_any test a) ≡ false → (list_any test a ≡ false → find test (a ++ b) ≡ find test b)
      → cond t (Some i) (find test (a ++ b)) ≡ find test b
  by true h rest = absurd (cc)
  by false h rest = rest h

-- the operator of the line that was found
abbrev named : Option Item → List ℕ
named found = unwrap_or (option_and_then operator_on (option_and_then plain_line found)) (codes "RD")

pub operator-first : (a b : List Item) → list_any reads_strings a ≡ true → operator_among (a ++ b) ≡ operator_among a
operator-first a b h = ap named (find-first reads_strings a b h)

pub operator-later : (a b : List Item) → list_any reads_strings a ≡ false → operator_among (a ++ b) ≡ operator_among b
operator-later a b h = ap named (find-later reads_strings a b h)

-- ---- counts

pub subrs-both : (a b : List Item) → subrs_needed (a ++ b) ≡ max (subrs_needed a) (subrs_needed b)
subrs-both [] b = omega arith
subrs-both (Plain l ∷ a) b = subrs-both a b
subrs-both (Section before n after ∷ a) b = subrs-both a b
subrs-both (Subr n ws closing ∷ a) b = omega (arith, subrs-both a b)
subrs-both (Glyph g ws closing ∷ a) b = subrs-both a b

-- ---- the lines that say lenIV stand alone

pub say_alone : (items : List Item) → list_any says_lead (filter stands_alone items) ≡ list_any says_lead items
unfolding stands_alone line_says
say_alone [] = refl
say_alone (Plain l ∷ items) = elim (cases_Bool (says_lead (Plain l))) [
  | inl says ↦ rw says (rw says refl)
  | inr silent ↦ rw silent (say_alone items)
]
say_alone (Section before n after ∷ items) = say_alone items
say_alone (Subr n ws closing ∷ items) = say_alone items
say_alone (Glyph g ws closing ∷ items) = say_alone items

-- ---- the items that a change makes

pub raised_after : (change : Change) (s : SourceParts) → IsWellFormed s → raised (items_after change s.items) ≡ (changed change s []).0.items
raised_after (changes.PutItem at item) s well = refl
raised_after (changes.InsertItem at item) s well = refl
raised_after (changes.RemoveItem at) s well = refl
raised_after (changes.PutClear lines) s well = well.items.counts
raised_after (changes.PutPair at pair) s well = well.items.counts
raised_after (changes.InsertPair at pair) s well = well.items.counts
raised_after (changes.RemovePair at) s well = well.items.counts
