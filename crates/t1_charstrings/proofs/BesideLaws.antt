-- How long the private text is beside its charstrings, after a change.
use Rattle.std.proofs.Common.{◌≡◌, ◌+◌, ◌-◌, ◌^◌, ◌<◌, ◌≤◌, ℕ, zero, suc, List, [], ◌∷◌, map, length, refl, subst, sym, Option, None, Some, arith}
use Rattle.std.specs.Prelude.{insert, remove}
use Rattle.std.specs.List.{slice_set}
use Rattle.std.specs.Option.{SomeIff}
use Rattle.std.proofs.lemmas.List.Sums.{sum_by-cons}
use Rattle.t1_parts.specs.declared.item.Item.{Item}
use Rattle.t1_parts.specs.declared.item.Item.TheVariants as items
use Rattle.t1_parts.specs.Counts.{glyphs_needed, raised, raised_item, subrs_needed}
use Rattle.t1_parts.specs.SourceParts.{SourceParts}
use Rattle.t1_source.specs.declared.editing.Change.{Change}
use Rattle.t1_source.specs.declared.editing.Change.TheVariants as changes
use Rattle.t1_source.specs.Changes.{IsFor, made_after, put_by, taken_by}
use Rattle.t1_charstrings.specs.Beside.{all_beside, beside, put_beside, taken_beside, IsCountedAfter, IsKeptBeside}
use Rattle.t1_charstrings.specs.Sums.{item_at}

-- ---- one item

beside-set : (is : List Item) (at : ℕ) (x : Item) → at < length is → all_beside (slice_set is at x) + beside (item_at is at) ≡ all_beside is + beside x
beside-set [] at x within = absurd (omega (arith, within))
beside-set (i ∷ is) zero x within = omega (arith, sum_by-cons beside i is, sum_by-cons beside x is)
beside-set (i ∷ is) (suc at) x within =
    omega (arith, beside-set is at x (omega (arith, within)), sum_by-cons beside i is, sum_by-cons beside i (slice_set is at x))

beside-remove : (is : List Item) (at : ℕ) → at < length is → all_beside (remove is at) + beside (item_at is at) ≡ all_beside is
beside-remove [] at within = absurd (omega (arith, within))
beside-remove (i ∷ is) zero within = omega (arith, sum_by-cons beside i is)
beside-remove (i ∷ is) (suc at) within =
    omega (arith, beside-remove is at (omega (arith, within)), sum_by-cons beside i is, sum_by-cons beside i (remove is at))

beside-insert : (is : List Item) (at : ℕ) (x : Item) → at ≤ length is → all_beside (insert is at x) ≡ all_beside is + beside x
beside-insert is zero x within = omega (arith, sum_by-cons beside x is)
beside-insert [] (suc at) x within = absurd (omega (arith, within))
beside-insert (i ∷ is) (suc at) x within =
    omega (arith, beside-insert is at x (omega (arith, within)), sum_by-cons beside i is, sum_by-cons beside i (insert is at x))

-- ---- raised counts change section lines alone

raised-one : (subrs glyphs : ℕ) (i : Item) → beside (raised_item subrs glyphs i) ≡ beside i
raised-one subrs glyphs (items.Plain l) = refl
raised-one subrs glyphs (items.Section before n after) = refl
raised-one subrs glyphs (items.Subr n ws closing) = refl
raised-one subrs glyphs (items.Glyph g ws closing) = refl

raised-map : (subrs glyphs : ℕ) (is : List Item) → all_beside (map (raised_item subrs glyphs) is) ≡ all_beside is
raised-map subrs glyphs [] = refl
raised-map subrs glyphs (i ∷ is) =
    omega (
      arith,
      raised-one subrs glyphs i,
      raised-map subrs glyphs is,
      sum_by-cons beside i is,
      sum_by-cons beside (raised_item subrs glyphs i) (map (raised_item subrs glyphs) is),
    )

raised-beside : (is : List Item) → all_beside (raised is) ≡ all_beside is
raised-beside is = raised-map (subrs_needed is) (glyphs_needed is) is

-- ---- a change

-- what it takes out less, and what it puts in more
changed-beside : (change : Change) (s : SourceParts) → IsFor change s
    → all_beside (made_after change s).items + taken_beside s.items (taken_by change) ≡ all_beside s.items + put_beside (put_by change)
changed-beside (changes.PutItem at item) s fits =
    omega (arith, raised-beside (slice_set s.items at item), beside-set s.items at item fits.serves.fits.0)
changed-beside (changes.InsertItem at item) s fits =
    omega (arith, raised-beside (insert s.items at item), beside-insert s.items at item fits.serves.fits)
changed-beside (changes.RemoveItem at) s fits =
    omega (arith, raised-beside (remove s.items at), beside-remove s.items at fits.serves.fits.0)
changed-beside (changes.PutClear lines) s fits = refl
changed-beside (changes.PutPair at pair) s fits = refl
changed-beside (changes.InsertPair at pair) s fits = refl
changed-beside (changes.RemovePair at) s fits = refl

-- ---- the length after it

counted-of : (was taken put left t p : ℕ) (result : Option ℕ) → taken ≡ t → put ≡ p → taken ≤ was → left ≡ was - taken
    → SomeIff result (left + put < 2 ^ 64) (left + put) → IsCountedAfter (Some was) t p result
counted-of was taken put left t p None taken_is put_is within left_is sum = λ both. sum (omega (arith, left_is, taken_is, put_is, both.1))
counted-of was taken put left t p (Some now) taken_is put_is within left_is sum = (
  (omega (arith, within, taken_is), omega (arith, left_is, taken_is, put_is, sum.0)),
  omega (arith, left_is, taken_is, put_is, sum.1),
)

-- by the steps of the sum
pub counted_beside : (len result : Option ℕ) (was taken put left t p : ℕ) → len ≡ Some was → taken ≡ t → put ≡ p → taken ≤ was → left ≡ was - taken
    → SomeIff result (left + put < 2 ^ 64) (left + put) → IsCountedAfter len t p result
counted_beside len result was taken put left t p len_is taken_is put_is within left_is sum =
    subst (λ l. IsCountedAfter l t p result) (sym len_is) (counted-of was taken put left t p result taken_is put_is within left_is sum)

-- so the private text is as long as is said
pub kept_beside : (change : Change) (source : SourceParts) → IsFor change source → (len result : Option ℕ)
    → IsCountedAfter len (taken_beside source.items (taken_by change)) (put_beside (put_by change)) result
    → (s : SourceParts) (n : ℕ) → IsKeptBeside s n source len → IsKeptBeside s n (made_after change source) result
kept_beside change source fits len None counted s n kept = tt
kept_beside change source fits None (Some now) counted s n kept = absurd (cc)
kept_beside change source fits (Some was) (Some now) counted s n kept = omega (arith, changed-beside change source fits, counted.0.0, counted.1, kept)
