-- Items without the plain lines that say nothing of lenIV.
use Rattle.std.proofs.Common.{◌≡◌, ℕ, zero, suc, ◌<◌, ◌+◌, true, false, Option, List, [], ◌∷◌, ◌++◌, max, fold, filter, length, ◌≤◌, if◌then◌else◌, inl, inr, refl, sym, ◌∙◌, ap, arith}
use Rattle.std.specs.Borrow.{Bor}
use Rattle.std.specs.List.{find, slice_index_or}
use Rattle.std.proofs.lemmas.List.{append-nil}
use Rattle.std.proofs.lemmas.List.Elements.{filter-append}
use Rattle.std.proofs.lemmas.Bool.{or_parts, cases_Bool}
use Rattle.t1_parts.specs.declared.item.Item.{Item}
use Rattle.t1_parts.specs.declared.item.Item.TheVariants.{Plain, Section, Subr, Glyph}
use Rattle.t1_parts.specs.Counts.{subrs_needed, glyphs_needed, is_glyph_entry}
use Rattle.t1_parts.specs.LenIV.{says_lead}
use Rattle.t1_parts.specs.Items.{line_items}
use Rattle.t1_parts.specs.Stretches.{one_item, line_says, lines_say, stands_alone, StandsAloneAt}

-- lines that say nothing
pub silent_filtered : (ls : List (List ℕ)) → lines_say ls ≡ false → filter stands_alone (line_items ls) ≡ []
unfolding stands_alone
silent_filtered [] h = refl
silent_filtered (l ∷ ls) h = let off = or_parts (line_says l) (lines_say ls) h in rw off.0 (silent_filtered ls off.1)

-- a stretch of which no item stands alone
pub none_alone : (items old new : List Item) → old ≡ items ++ new → filter stands_alone items ≡ [] → filter stands_alone old ≡ filter stands_alone new
none_alone items old new whole h = ap (filter stands_alone) whole ∙ filter-append stands_alone items new ∙ ap (λ t. t ++ filter stands_alone new) h

-- and of which one does
pub one_alone : (items old new : List Item) (item : Item) → old ≡ items ++ new → filter stands_alone items ≡ item ∷ [] → filter stands_alone old ≡ item ∷ filter stands_alone new
one_alone items old new item whole h = ap (filter stands_alone) whole ∙ filter-append stands_alone items new ∙ ap (λ t. t ++ filter stands_alone new) h

-- lines in front and lines behind
pub alone_between : (first : Option (Bor Item)) (front back : List (List ℕ)) (ss : List Item) → lines_say front ≡ false → lines_say back ≡ false
    → filter stands_alone (one_item first ++ ss) ≡ filter stands_alone (one_item first ++ (line_items front ++ (ss ++ line_items back)))
alone_between first front back ss f b =
    let keep = filter stands_alone in
    filter-append stands_alone (one_item first) (ss)
    ∙ ap (λ t. keep (one_item first) ++ t) (sym (
    filter-append stands_alone (line_items front) (ss ++ line_items back)
    ∙ ap (λ t. t ++ keep (ss ++ line_items back)) (silent_filtered front f)
    ∙ filter-append stands_alone (ss) (line_items back)
    ∙ ap (λ t. keep (ss) ++ t) (silent_filtered back b)
    ∙ append-nil (keep (ss))
    ))
    ∙ sym (filter-append stands_alone (one_item first) (line_items front ++ (ss ++ line_items back)))

-- ---- what silent lines add nothing to

pub subrs_alone : (items : List Item) → subrs_needed (filter stands_alone items) ≡ subrs_needed items
unfolding stands_alone
subrs_alone [] = refl
subrs_alone (Plain l ∷ items) = elim (cases_Bool (line_says l)) [
  | inl says ↦ rw says (subrs_alone items)
  | inr silent ↦ rw silent (subrs_alone items)
]
subrs_alone (Section before n after ∷ items) = subrs_alone items
subrs_alone (Subr n ws closing ∷ items) = ap (max (n + 1)) (subrs_alone items)
subrs_alone (Glyph g ws closing ∷ items) = subrs_alone items

-- the glyphs counted from a number on
count_from : ℕ → List Item → ℕ
count_from n items = fold (λ m i. m + (if is_glyph_entry i then 1 else 0)) n items

from_alone : (n : ℕ) (items : List Item) → count_from n (filter stands_alone items) ≡ count_from n items
unfolding stands_alone count_from
from_alone n [] = refl
from_alone n (Plain l ∷ items) = elim (cases_Bool (line_says l)) [
  | inl says ↦ rw says (from_alone (n + 0) items)
  | inr silent ↦ (let same : n ≡ n + 0 = omega arith in rw silent (from_alone n items ∙ ap (λ k. count_from k items) same))
]
from_alone n (Section before k after ∷ items) = from_alone (n + 0) items
from_alone n (Subr k ws closing ∷ items) = from_alone (n + 0) items
from_alone n (Glyph g ws closing ∷ items) = from_alone (n + 1) items

pub glyphs_alone : (items : List Item) → glyphs_needed (filter stands_alone items) ≡ glyphs_needed items
unfolding count_from
glyphs_alone items = from_alone 0 items

-- no more items are left than there were
pub length_alone : (items : List Item) → length (filter stands_alone items) ≤ length items
length_alone [] = omega arith
length_alone (i ∷ items) =
    let more = length_alone items in
    elim (cases_Bool (stands_alone i)) [
      | inl alone ↦ rw alone (omega (arith, more))
      | inr silent ↦ rw silent (omega (arith, more))
    ]

pub lead_alone : (items : List Item) → find says_lead (filter stands_alone items) ≡ find says_lead items
unfolding stands_alone line_says
lead_alone [] = refl
lead_alone (Plain l ∷ items) = elim (cases_Bool (says_lead (Plain l))) [
  | inl says ↦ rw says (rw says refl)
  | inr silent ↦ rw silent (lead_alone items)
]
lead_alone (Section before n after ∷ items) = lead_alone items
lead_alone (Subr n ws closing ∷ items) = lead_alone items
lead_alone (Glyph g ws closing ∷ items) = lead_alone items

-- ---- what stands alone

pub alone_subr : (n : ℕ) (ws : List (List ℕ)) (closing : List ℕ) → stands_alone (Subr n ws closing) ≡ true
unfolding stands_alone
alone_subr n ws closing = refl

pub alone_glyph : (g : List ℕ) (ws : List (List ℕ)) (closing : List ℕ) → stands_alone (Glyph g ws closing) ≡ true
unfolding stands_alone
alone_glyph g ws closing = refl

pub alone_saying : (item : Item) → says_lead item ≡ true → stands_alone item ≡ true
unfolding stands_alone line_says
alone_saying (Plain l) h = h
alone_saying (Section before n after) h = refl
alone_saying (Subr n ws closing) h = refl
alone_saying (Glyph g ws closing) h = refl

-- an item that is there stands alone whatever is taken where there is none
pub alone_at : (items : List Item) (at : ℕ) (d : Item) → at < length items → stands_alone (slice_index_or items at d) ≡ true → StandsAloneAt items at
alone_at [] at d h alone e = absurd (omega (arith, h))
alone_at (i ∷ items) zero d h alone e = alone
alone_at (i ∷ items) (suc at) d h alone e = alone_at items at d (omega (arith, h)) alone e
