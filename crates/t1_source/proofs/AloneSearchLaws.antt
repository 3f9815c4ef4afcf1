-- A test that no plain line passes finds among the items that stand alone what it finds among all.
use Rattle.std.proofs.Common.{◌≡◌, ℕ, Bool, false, ◌||◌, if◌then◌else◌, Some, List, [], ◌∷◌, filter, refl, ap, inl, inr}
use Rattle.std.specs.List.{list_any, find}
use Rattle.std.proofs.lemmas.Bool.{cases_Bool}
use Rattle.t1_parts.specs.declared.item.Item.{Item}
use Rattle.t1_parts.specs.declared.item.Item.TheVariants.{Plain, Section, Subr, Glyph}
use Rattle.t1_parts.specs.Stretches.{line_says, stands_alone}

pub any_alone : (test : Item → Bool) → ((l : List ℕ) → test (Plain l) ≡ false) → (items : List Item) → list_any test (filter stands_alone items) ≡ list_any test items
unfolding stands_alone
any_alone test off [] = refl
any_alone test off (Plain l ∷ items) = elim (cases_Bool (line_says l)) [
  | inl says ↦ rw says (ap (λ t. test (Plain l) || t) (any_alone test off items))
  | inr silent ↦ (let plain = off l in rw (silent, plain) (any_alone test off items))
]
any_alone test off (Section before n after ∷ items) = ap (λ t. test (Section before n after) || t) (any_alone test off items)
any_alone test off (Subr n ws closing ∷ items) = ap (λ t. test (Subr n ws closing) || t) (any_alone test off items)
any_alone test off (Glyph g ws closing ∷ items) = ap (λ t. test (Glyph g ws closing) || t) (any_alone test off items)

pub find_alone : (test : Item → Bool) → ((l : List ℕ) → test (Plain l) ≡ false) → (items : List Item) → find test (filter stands_alone items) ≡ find test items
unfolding stands_alone
find_alone test off [] = refl
find_alone test off (Plain l ∷ items) = elim (cases_Bool (line_says l)) [
  | inl says ↦ (let plain = off l in rw says (rw plain (find_alone test off items)))
  | inr silent ↦ (let plain = off l in rw silent (rw plain (find_alone test off items)))
]
find_alone test off (Section before n after ∷ items) = ap (λ t. if test (Section before n after) then Some (Section before n after) else t) (find_alone test off items)
find_alone test off (Subr n ws closing ∷ items) = ap (λ t. if test (Subr n ws closing) then Some (Subr n ws closing) else t) (find_alone test off items)
find_alone test off (Glyph g ws closing ∷ items) = ap (λ t. if test (Glyph g ws closing) then Some (Glyph g ws closing) else t) (find_alone test off items)
