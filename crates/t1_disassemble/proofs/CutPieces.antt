-- Bytes that are cut into pieces: the first piece, and those after it.
use Rattle.std.proofs.Common.{◌≡◌, ℕ, zero, suc, ◌+◌, ◌-◌, ◌<◌, ◌≤◌, min, List, [], ◌∷◌, length, drop, refl, sym, ap, ◌∙◌, arith}
use Rattle.std.proofs.lemmas.List.{length-drop, drop-drop, drop_min}
use Rattle.t1_disassemble.specs.Cuts.{pieces_after, pieces}

-- what is left of some bytes: some of them are dropped
abbrev pub IsLeft : List ℕ → List ℕ → Type 0
IsLeft bytes rest = (n : ℕ) × (rest ≡ drop n bytes)

pub left_short : (bytes rest : List ℕ) → IsLeft bytes rest → length rest ≤ length bytes
left_short bytes rest h = omega (arith, ap length h.1, length-drop h.0 bytes)

-- so many are dropped
pub dropped_once : (n : ℕ) (bytes : List ℕ) → drop (length bytes - length (drop n bytes)) bytes ≡ drop n bytes
dropped_once n bytes =
    let gone : length bytes - length (drop n bytes) ≡ min n (length bytes) = omega (arith, length-drop n bytes) in
    ap (λ k. drop k bytes) gone ∙ drop_min n bytes

-- what is left is the end of it
pub left_suffix : (bytes rest : List ℕ) → IsLeft bytes rest → rest ≡ drop (length bytes - length rest) bytes
left_suffix bytes rest h =
    h.1 ∙ sym (dropped_once h.0 bytes) ∙ ap (λ (l : List ℕ). drop (length bytes - length l) bytes) (sym h.1)

-- something is left of what is left
pub left_twice : (bytes middle rest : List ℕ) → IsLeft bytes middle → IsLeft middle rest → IsLeft bytes rest
left_twice bytes middle rest g h = (g.0 + h.0, h.1 ∙ ap (λ (l : List ℕ). drop h.0 l) g.1 ∙ drop-drop h.0 g.0 bytes)

-- the first byte is among those that are dropped
gone_by : (c : ℕ) (bytes rest : List ℕ) (n : ℕ) → rest ≡ drop n (c ∷ bytes) → length rest < suc (length bytes) → IsLeft bytes rest
gone_by c bytes rest zero e h = absurd (omega (arith, ap length e, h))
gone_by c bytes rest (suc n) e h = (n, e)

pub first_gone : (c : ℕ) (bytes rest : List ℕ) → IsLeft (c ∷ bytes) rest → length rest < suc (length bytes) → IsLeft bytes rest
first_gone c bytes rest g h = gone_by c bytes rest g.0 g.1 h

passed : (left : List ℕ → List ℕ) (k : ℕ) (bytes : List ℕ) → pieces_after left k bytes ≡ pieces left (drop k bytes)
passed left zero bytes = refl
passed left (suc k) [] = refl
passed left (suc k) (c ∷ bytes) = passed left k bytes

-- the pieces after those bytes that belong to the first are those of what it leaves
pub left_pieces : (left : List ℕ → List ℕ) (bytes rest : List ℕ) → IsLeft bytes rest → pieces_after left (length bytes - length rest) bytes ≡ pieces left rest
left_pieces left bytes rest h =
    passed left (length bytes - length rest) bytes
    ∙ ap (pieces left) (ap (λ (l : List ℕ). drop (length bytes - length l) bytes) h.1 ∙ dropped_once h.0 bytes ∙ sym h.1)
