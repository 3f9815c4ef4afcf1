-- Lines of a kind, counted one by one.
use Rattle.std.proofs.Common.{◌≡◌, ℕ, Bool, true, false, ◌+◌, ◌<◌, ◌≤◌, if◌then◌else◌, List, ◌∷◌, length, Option, ap, inl, inr, arith}
use Rattle.std.proofs.lemmas.Bool.{cases_Bool}
use Rattle.std.specs.Prelude.{filter}
use Rattle.t1_parts.specs.declared.item.Item.{Item}
use Rattle.t1_disassemble.specs.Kinds.{is_line_of}

pub lines_counted : (kind : List ℕ → Option Item) (l : List ℕ) (ls : List (List ℕ)) → length (filter (is_line_of kind) (l ∷ ls)) ≡ (if is_line_of kind l then 1 else 0) + length (filter (is_line_of kind) ls)
lines_counted kind l ls = elim (cases_Bool (is_line_of kind l)) [
  | inl t ↦ rw t (omega arith)
  | inr f ↦ rw f (omega arith)
]

-- those so far and those that are left, after one line more
pub counted_more : (kind : List ℕ → Option Item) (count n all : ℕ) (l : List ℕ) (ls after : List (List ℕ)) → filter (is_line_of kind) ls ≡ filter (is_line_of kind) (l ∷ after) → n ≡ (if is_line_of kind l then 1 else 0)
    → count + length (filter (is_line_of kind) ls) ≡ all → count + n + length (filter (is_line_of kind) after) ≡ all
counted_more kind count n all l ls after cut one h =
    omega (arith, ap (λ (k : List (List ℕ)). length k) cut, lines_counted kind l after, one, h)

one_most : (b : Bool) → (if b then 1 else 0) ≤ 1
one_most true = omega arith
one_most false = omega arith

-- they are no more than the bytes that are passed
pub few_more : (kind : List ℕ → Option Item) (count n left after all : ℕ) (l : List ℕ) → n ≡ (if is_line_of kind l then 1 else 0) → after < left → count + left ≤ all → count + n + after ≤ all
few_more kind count n left after all l one shorter h = omega (arith, one, one_most (is_line_of kind l), shorter, h)
