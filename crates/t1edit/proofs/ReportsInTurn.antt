-- What is told of several files, in turn.
use Rattle.std.proofs.Common.{◌≡◌, ℕ, max, List, [], ◌∷◌, refl, subst, arith}
use Rattle.std.specs.Borrow.{Bor}
use Rattle.t1edit.specs.Reporting.{InOrder}

-- what became of the files so far, for whatever becomes of those that are left
abbrev pub Left : {S : Type 0} → (List ℕ → S → S → ℕ → Type 0) → List (Bor (List ℕ)) → List (Bor (List ℕ)) → S → S → ℕ → Type 0
Left {S} each paths rest start now worst = (end : S) (last : ℕ) → InOrder each rest now end last → InOrder each paths start end (max worst last)

module _ {S : Type 0} (each : List ℕ → S → S → ℕ → Type 0) (paths : List (Bor (List ℕ))) where
  pub left_all : (start : S) → Left each paths paths start start 0
  left_all start = λ end last h.
      let same : last ≡ max 0 last = omega arith in
      subst (InOrder each paths start end) same h

  -- one more file
  pub left_after : (start now next : S) (worst status : ℕ) (path : Bor (List ℕ)) (rest : List (Bor (List ℕ)))
      → Left each paths (path ∷ rest) start now worst → each path.now now next status → Left each paths rest start next (max status worst)
  left_after start now next worst status path rest left is = λ end last h.
      let same : max worst (max status last) ≡ max (max status worst) last = omega arith in
      subst (InOrder each paths start end) same (left end (max status last) (next, status, last, is, h, refl))

  -- no file is left
  pub left_none : (start now : S) (worst : ℕ) → Left each paths [] start now worst → InOrder each paths start now worst
  left_none start now worst left =
      let same : max worst 0 ≡ worst = omega arith in
      subst (InOrder each paths start now) same (left now 0 (refl, refl))
