-- The parts of a file, in order, and when there is none.
use Rattle.std.proofs.Common.{◌≡◌, true, false, ℕ, zero, suc, List, [], ◌∷◌, ◌++◌, length, refl, ap, ◌∙◌, append_assoc, append-nil, Ok, inl, inr, ◌<◌, ◌≤◌, ◌-◌, ◌^◌, max, min, arith}
use Rattle.std.proofs.lemmas.Bool.{cases_lt, lt-ltb, le-ltb}
use Rattle.std.specs.List.{AllByRecursion, flat_map, onto_first}
use Rattle.t1_code.specs.Cipher.{eexec}
use Rattle.t1_code.specs.Pfa.{pfa, hexadecimal_lines}
use Rattle.t1_code.specs.Pfb.{segment, segment_head, segments, blocks, pfb, has_long_part, pfb_of}
use Rattle.t1_code.specs.Segments.{in_segments}
use Rattle.t1_code.proofs.Blocks.{blocks_from, blocks_in_turn, one_block}
use Rattle.t1_code.proofs.Segmenting.{segments_are}

pub segments_fit : (size kind : ℕ) (bytes : List ℕ) → length bytes ≤ size → segments size kind bytes ≡ segment kind bytes
unfolding segments
segments_fit size kind bytes h = rw (one_block size bytes h) (append-nil (segment kind bytes))

pub whole_segments : (clear private trailer : List ℕ) → length clear ≤ 2 ^ 31 - 1 → length (eexec private) ≤ 2 ^ 31 - 1 → length trailer ≤ 2 ^ 31 - 1
    → pfb (2 ^ 31 - 1) clear private trailer ≡ segment 1 clear ++ segment 2 (eexec private) ++ segment 1 trailer ++ 128 ∷ 3 ∷ []
unfolding pfb
whole_segments clear private trailer c p t =
    rw (segments_fit (2 ^ 31 - 1) 1 clear c, segments_fit (2 ^ 31 - 1) 2 (eexec private) p, segments_fit (2 ^ 31 - 1) 1 trailer t) refl

pub empty_segment : (size kind : ℕ) → segments size kind [] ≡ segment kind []
empty_segment size kind = segments_fit size kind [] (omega arith)

-- ---- the blocks of a part

onto_joined : (x : ℕ) (blocks : List (List ℕ)) → flat_map (λ block. block) (onto_first x blocks) ≡ x ∷ flat_map (λ block. block) blocks
onto_joined x [] = refl
onto_joined x (block ∷ blocks) = refl

joined_from : (size room : ℕ) (bytes : List ℕ) → flat_map (λ block. block) (blocks_from size room bytes) ≡ bytes
joined_from size room [] = refl
joined_from size zero (x ∷ bytes) = onto_joined x (blocks_from size (size - 1) bytes) ∙ ap (λ l. x ∷ l) (joined_from size (size - 1) bytes)
joined_from size (suc room) (x ∷ bytes) = onto_joined x (blocks_from size room bytes) ∙ ap (λ l. x ∷ l) (joined_from size room bytes)

pub blocks_join : (size : ℕ) (bytes : List ℕ) → 1 ≤ size → flat_map (λ block. block) (blocks size bytes) ≡ bytes
blocks_join size bytes some = ap (flat_map (λ block. block)) (blocks_in_turn size bytes some) ∙ joined_from size size bytes

-- the first block has so many bytes at most, and the others as many as a block
abbrev HasRoom : ℕ → ℕ → List (List ℕ) → Type 0
HasRoom size room [] = ⊥
HasRoom size room (block ∷ blocks) = (length block ≤ room) × AllByRecursion (λ other. length other ≤ size) blocks

onto_room : (size room x : ℕ) (blocks : List (List ℕ)) → HasRoom size room blocks → HasRoom size (suc room) (onto_first x blocks)
onto_room size room x [] h = absurd h
onto_room size room x (block ∷ blocks) h = (omega (arith, h.0), h.1)

opens_room : (size room : ℕ) (blocks : List (List ℕ)) → suc room ≤ size → HasRoom size (suc room) blocks → AllByRecursion (λ other. length other ≤ size) blocks
opens_room size room [] e h = absurd h
opens_room size room (block ∷ blocks) e h = (omega (arith, e, h.0), h.1)

have_room : (size room : ℕ) (bytes : List ℕ) → 1 ≤ size → HasRoom size room (blocks_from size room bytes)
have_room size room [] some = (omega arith, tt)
have_room size zero (x ∷ bytes) some =
    (omega arith, opens_room size (size - 1) (onto_first x (blocks_from size (size - 1) bytes)) (omega (arith, some)) (onto_room size (size - 1) x (blocks_from size (size - 1) bytes) (have_room size (size - 1) bytes some)))
have_room size (suc room) (x ∷ bytes) some = onto_room size room x (blocks_from size room bytes) (have_room size room bytes some)

short_all : (size : ℕ) (blocks : List (List ℕ)) → HasRoom size size blocks → AllByRecursion (λ block. length block ≤ size) blocks
short_all size [] h = absurd h
short_all size (block ∷ blocks) h = h

pub blocks_short : (size : ℕ) (bytes : List ℕ) → 1 ≤ size → AllByRecursion (λ block. length block ≤ size) (blocks size bytes)
blocks_short size bytes some = rw (blocks_in_turn size bytes some) (short_all size (blocks_from size size bytes) (have_room size size bytes some))

-- the parts of the file, in order
pub file_parts : (size : ℕ) (clear private trailer : List ℕ) → 1 ≤ size → pfb size clear private trailer
    ≡ segments size 1 clear ++ (segment_head 2 (min size (length (eexec private))) ++ (in_segments (record { kind = 2; size = size; room = size; left = length (eexec private) }) (eexec private)
    ++ (segments size 1 trailer ++ (128 ∷ 3 ∷ []))))
unfolding pfb
file_parts size clear private trailer some =
    let head = segment_head 2 (min size (length (eexec private))) in
    let cut = in_segments (record { kind = 2; size = size; room = size; left = length (eexec private) }) (eexec private) in
    append_assoc (segments size 1 clear ++ segments size 2 (eexec private)) (segments size 1 trailer) (128 ∷ 3 ∷ [])
    ∙ append_assoc (segments size 1 clear) (segments size 2 (eexec private)) (segments size 1 trailer ++ (128 ∷ 3 ∷ []))
    ∙ ap (λ l. segments size 1 clear ++ (l ++ (segments size 1 trailer ++ (128 ∷ 3 ∷ [])))) (segments_are size 2 (eexec private) some)
    ∙ ap (λ l. segments size 1 clear ++ l) (append_assoc head cut (segments size 1 trailer ++ (128 ∷ 3 ∷ [])))

pub hexadecimal_parts : (clear private trailer : List ℕ) → pfa clear private trailer ≡ clear ++ (hexadecimal_lines (eexec private) ++ trailer)
unfolding pfa
hexadecimal_parts clear private trailer = append_assoc clear (hexadecimal_lines (eexec private)) trailer

-- a part is too long
pub long_part : (clear private trailer : List ℕ) → 2 ^ 31 - 1 < max (max (length clear) (length (eexec private))) (length trailer) → has_long_part clear private trailer ≡ true
long_part clear private trailer h = elim (cases_lt (2 ^ 31 - 1) (length clear)) [
  | inl p ↦ rw (lt-ltb (2 ^ 31 - 1) (length clear) p) refl
  | inr p ↦ rw (le-ltb (2 ^ 31 - 1) (length clear) p) (elim (cases_lt (2 ^ 31 - 1) (length (eexec private))) [
    | inl q ↦ rw (lt-ltb (2 ^ 31 - 1) (length (eexec private)) q) refl
    | inr q ↦ rw (le-ltb (2 ^ 31 - 1) (length (eexec private)) q) (let r : 2 ^ 31 - 1 < length trailer = omega arith in rw (lt-ltb (2 ^ 31 - 1) (length trailer) r) refl)
  ])
]

-- no part is too long
pub no_long_part : (clear private trailer : List ℕ) → max (max (length clear) (length (eexec private))) (length trailer) ≤ 2 ^ 31 - 1 → has_long_part clear private trailer ≡ false
no_long_part clear private trailer h =
    let p : length clear ≤ 2 ^ 31 - 1 = omega arith in
    let q : length (eexec private) ≤ 2 ^ 31 - 1 = omega arith in
    let r : length trailer ≤ 2 ^ 31 - 1 = omega arith in
    rw (le-ltb (2 ^ 31 - 1) (length clear) p, le-ltb (2 ^ 31 - 1) (length (eexec private)) q, le-ltb (2 ^ 31 - 1) (length trailer) r) refl

pub fits : (size : ℕ) (clear private trailer : List ℕ) → max (max (length clear) (length (eexec private))) (length trailer) ≤ 2 ^ 31 - 1 → pfb_of size clear private trailer ≡ Ok (pfb size clear private trailer)
fits size clear private trailer h = rw (no_long_part clear private trailer h) refl
