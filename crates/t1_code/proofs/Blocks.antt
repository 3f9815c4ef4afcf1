-- The blocks of a part, place by place and byte by byte.
use Rattle.std.proofs.Common.{◌≡◌, ℕ, zero, suc, ◌+◌, ◌-◌, ◌*◌, ◌/◌, ◌%◌, ◌<◌, ◌≤◌, max, List, [], ◌∷◌, length, take, drop, refl, sym, ap, ◌∙◌, inl, inr, add-one, length-drop, arith}
use Rattle.std.proofs.Math.Nat.{mul-suc, add-div_right, add-mod_right, div_self, mod_self, zero-div, zero-mod, div-eq_of_lt, mod-eq_of_lt}
use Rattle.std.proofs.lemmas.Bool.{cases_lt}
use Rattle.std.proofs.lemmas.List.{drop-drop, take_all}
use Rattle.std.specs.Int.{div_ceil}
use Rattle.std.specs.List.{onto_first, range_with_len}
use Rattle.std.specs.Prelude.{map}
use Rattle.t1_code.specs.Pfb.{block, blocks}

-- the bytes in blocks of this size, the last with the rest, where the first block has this much room left
abbrev pub blocks_from : ℕ → ℕ → List ℕ → List (List ℕ)
blocks_from size room [] = [] ∷ []
blocks_from size zero (byte ∷ bytes) = [] ∷ onto_first byte (blocks_from size (size - 1) bytes)
blocks_from size (suc room) (byte ∷ bytes) = onto_first byte (blocks_from size room bytes)

-- bytes that the room holds stand in one block
pub blocks_fit : (size room : ℕ) (bytes : List ℕ) → length bytes ≤ room → blocks_from size room bytes ≡ bytes ∷ []
blocks_fit size room [] h = refl
blocks_fit size zero (byte ∷ bytes) h = absurd (omega arith)
blocks_fit size (suc room) (byte ∷ bytes) h = ap (onto_first byte) (blocks_fit size room bytes (omega arith))

-- more bytes fill the first block
blocks_cut : (size room : ℕ) (bytes : List ℕ) → 1 ≤ size → room < length bytes → blocks_from size room bytes ≡ take room bytes ∷ blocks_from size size (drop room bytes)
blocks_cut size room [] some h = absurd (omega arith)
blocks_cut zero zero (byte ∷ bytes) some h = absurd (omega arith)
blocks_cut (suc size) zero (byte ∷ bytes) some h = let less : suc size - 1 ≡ size = omega arith in rw less refl
blocks_cut size (suc room) (byte ∷ bytes) some h = ap (onto_first byte) (blocks_cut size room bytes some (omega arith))

-- ---- how many blocks there are

ceil_zero : (size : ℕ) → div_ceil 0 size ≡ 0
ceil_zero size =
    let whole : 0 / size ≡ 0 = zero-div size in
    let rest : 0 % size ≡ 0 = zero-mod size in
    omega (arith, whole, rest)

-- a block more is one more
ceil_more : (count size : ℕ) → 1 ≤ size → div_ceil (count + size) size ≡ div_ceil count size + 1
ceil_more count size some =
    let whole : (count + size) / size ≡ count / size + 1 = add-div_right count {k = size} (omega (arith, some)) in
    let rest : (count + size) % size ≡ count % size = add-mod_right count size in
    omega (arith, whole, rest)

-- some bytes, no more than a block, are one
ceil_one : (count size : ℕ) → 1 ≤ count → count ≤ size → div_ceil count size ≡ 1
ceil_one count size some short = elim (cases_lt count size) [
  | inl p ↦ (
      let whole : count / size ≡ 0 = div-eq_of_lt p in
      let rest : count % size ≡ count = mod-eq_of_lt p in
      omega (arith, whole, rest, some))
  | inr p ↦ (
      let e : count ≡ size = omega (arith, p, short) in
      let whole : size / size ≡ 1 = div_self {n = size} (omega (arith, some, short)) in
      let rest : size % size ≡ 0 = mod_self size in
      omega (arith, ap (λ n. div_ceil n size) e, whole, rest))
]

few_are_one : (count size : ℕ) → count ≤ size → div_ceil count size ≤ 1
few_are_one count size short = elim (cases_lt 0 count) [
  | inl p ↦ (let one = ceil_one count size (omega (arith, p)) short in omega (arith, one))
  | inr p ↦ (let e : count ≡ 0 = omega (arith, p) in omega (arith, ap (λ n. div_ceil n size) e, ceil_zero size))
]

-- some bytes begin a block
some_begin : (count size : ℕ) → 1 ≤ count → 1 ≤ size → 1 ≤ div_ceil count size
some_begin count size some h = elim (cases_lt size count) [
  | inl p ↦ (
      let e : count ≡ (count - size) + size = omega (arith, p) in
      omega (arith, ap (λ n. div_ceil n size) e, ceil_more (count - size) size h))
  | inr p ↦ omega (arith, ceil_one count size some p)
]

-- ---- the same blocks, one after another

-- the blocks past the first are those of the bytes past it
past_first : (size start count : ℕ) (bytes : List ℕ) → map (block size bytes) (range_with_len (start + 1) count) ≡ map (block size (drop size bytes)) (range_with_len start count)
past_first size start zero bytes = refl
past_first size start (suc count) bytes =
    let place : size * (start + 1) ≡ size + size * start = omega (arith, ap (λ n. size * n) (add-one start), mul-suc size start) in
    let first : block size bytes (start + 1) ≡ block size (drop size bytes) start =
    ap (λ n. take size (drop n bytes)) place ∙ ap (take size) (sym (drop-drop (size * start) size bytes)) in
    ap (λ b. b ∷ map (block size bytes) (range_with_len (start + 1 + 1) count)) first
    ∙ ap (λ bs. block size (drop size bytes) start ∷ bs) (past_first size (start + 1) count bytes)

pub one_block : (size : ℕ) (bytes : List ℕ) → length bytes ≤ size → blocks size bytes ≡ bytes ∷ []
unfolding blocks
one_block size bytes h =
    let one : max (div_ceil (length bytes) size) 1 ≡ 1 = omega (arith, few_are_one (length bytes) size h) in
    let start : size * 0 ≡ 0 = omega arith in
    rw (one, start) (ap (λ b. b ∷ []) (take_all size bytes h))

first_cut : (size : ℕ) (bytes : List ℕ) → 1 ≤ size → size < length bytes → blocks size bytes ≡ take size bytes ∷ blocks size (drop size bytes)
unfolding blocks
first_cut size bytes some h =
    let rest = length (drop size bytes) in
    let long : length bytes ≡ rest + size = omega (arith, length-drop size bytes, h) in
    let more : 1 ≤ rest = omega (arith, long, h) in
    let count : max (div_ceil (length bytes) size) 1 ≡ suc (max (div_ceil rest size) 1) =
    omega (arith, ap (λ n. div_ceil n size) long, ceil_more rest size some, some_begin rest size more some) in
    let start : size * 0 ≡ 0 = omega arith in
    rw (count, start) (ap (λ bs. take size bytes ∷ bs) (past_first size 0 (max (div_ceil rest size) 1) bytes))

in_turn : (most size : ℕ) (bytes : List ℕ) → 1 ≤ size → length bytes ≤ most → blocks size bytes ≡ blocks_from size size bytes
in_turn zero size bytes some h = one_block size bytes (omega (arith, h)) ∙ sym (blocks_fit size size bytes (omega (arith, h)))
in_turn (suc most) size bytes some h = elim (cases_lt size (length bytes)) [
  | inl p ↦ (
      let less : length (drop size bytes) ≤ most = omega (arith, length-drop size bytes, some, h) in
      first_cut size bytes some p ∙ ap (λ bs. take size bytes ∷ bs) (in_turn most size (drop size bytes) some less) ∙ sym (blocks_cut size size bytes some p))
  | inr p ↦ one_block size bytes p ∙ sym (blocks_fit size size bytes p)
]

pub blocks_in_turn : (size : ℕ) (bytes : List ℕ) → 1 ≤ size → blocks size bytes ≡ blocks_from size size bytes
blocks_in_turn size bytes some = in_turn (length bytes) size bytes some (omega arith)
