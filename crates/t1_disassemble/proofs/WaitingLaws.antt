-- Words that wait, and those that go out.
use Rattle.std.proofs.Common.{◌≡◌, ℕ, ltb, ◌≤◌, ◌+◌, List, [], ◌++◌, take, refl, append-nil, inl, inr, arith}
use Rattle.std.proofs.lemmas.Bool.{cases_Bool, ltb-true, ltb-false}
use Rattle.t1_disassemble.specs.Waiting.{due, left_of}

pub none_due : (len : ℕ) (bytes : List ℕ) → len ≤ 232 → due len bytes ≡ []
none_due len bytes few = elim (cases_Bool (ltb 232 len)) [
  | inl t ↦ absurd (omega (arith, ltb-true 232 len t))
  | inr f ↦ rw f refl
]

-- what goes out and what is left are what waited
pub due_left : (len : ℕ) (bytes : List ℕ) → due len bytes ++ take (left_of len) bytes ≡ take len bytes
due_left len bytes = elim (cases_Bool (ltb 232 len)) [
  | inl t ↦ rw t (append-nil (take len bytes))
  | inr f ↦ rw f refl
]

pub left_room : (len : ℕ) → left_of len + 24 ≤ 256
left_room len = elim (cases_Bool (ltb 232 len)) [
  | inl t ↦ rw t (omega arith)
  | inr f ↦ rw f (omega (arith, ltb-false 232 len f))
]
