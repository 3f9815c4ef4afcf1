-- Bytes that are cut into pieces, one after another.
use Rattle.std.specs.Prelude.{ℕ, zero, suc, ◌-◌, List, [], ◌∷◌, length}

-- profile: the bytes from each piece on, where `left` says what is left after the piece at the front; so many bytes at the front
-- belong to the piece before them
abbrev pub pieces_after : (List ℕ → List ℕ) → ℕ → List ℕ → List (List ℕ)
pieces_after left more [] = []
pieces_after left (suc more) (c ∷ bytes) = pieces_after left more bytes
pieces_after left zero (c ∷ bytes) = (c ∷ bytes) ∷ pieces_after left (length bytes - length (left (c ∷ bytes))) bytes

-- profile: the bytes from each piece on
abbrev pub pieces : (List ℕ → List ℕ) → List ℕ → List (List ℕ)
pieces left bytes = pieces_after left 0 bytes
