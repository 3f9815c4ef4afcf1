-- Where a text first stands on a line.
use Rattle.std.proofs.Common.{◌≡◌, ℕ, ◌+◌, ◌==◌, false, List, ◌∷◌, refl}
use Rattle.std.specs.List.{starts_with}
use Rattle.t1_parts.specs.Operator.{text_place}

-- a byte where the text doesn't stand
pub text_later : (text l : List ℕ) (c : ℕ) (rest : List ℕ) → l ≡ c ∷ rest → starts_with (λ x y. x == y) l text ≡ false → text_place text l ≡ 1 + text_place text rest
text_later text l c rest e h = let off = rw e at h in rw e (rw off refl)
