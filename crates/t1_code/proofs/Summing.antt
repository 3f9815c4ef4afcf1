-- How long a file is, by sums.
use Rattle.std.proofs.Common.{◌≡◌, false, ℕ, ◌+◌, ◌*◌, ◌≤◌, max, List, [], ◌∷◌, ◌++◌, length, Result, Ok, refl, sym, ap, ◌∙◌, arith}
use Rattle.std.proofs.Math.Nat.{mul-suc}
use Rattle.std.proofs.lemmas.List.{length-append}
use Rattle.std.proofs.lemmas.List.FromFn.{length-map-range_with_len}
use Rattle.std.specs.List.{flat_map}
use Rattle.std.specs.Int.{div_ceil}
use Rattle.t1_frac.specs.declared.fault.Fault.{Fault}
use Rattle.t1_code.specs.Cipher.{eexec}
use Rattle.t1_code.specs.Parts.{length_of}
use Rattle.t1_code.specs.Pfa.{digits_of_byte, line_of_digits, hexadecimal_lines, pfa, pfa_of}
use Rattle.t1_code.specs.Pfb.{block, blocks, segment, segment_head, segments, pfb, pfb_of, has_long_part}
use Rattle.t1_code.proofs.Framing.{blocks_join}

-- one block for each size of bytes, the last with the rest, and one where there is no byte
pub block_count_is : (size count : ℕ) (bytes : List ℕ) → length bytes ≡ count → max (div_ceil count size) 1 ≡ length (blocks size bytes)
unfolding blocks
block_count_is size count bytes e =
    ap (λ n. max (div_ceil n size) 1) (sym e) ∙ sym (length-map-range_with_len (block size bytes) 0 (max (div_ceil (length bytes) size) 1))

-- ---- the lengths of what stands in blocks

segment_length : (kind : ℕ) (block : List ℕ) → length (segment kind block) ≡ length block + 6
unfolding segment
segment_length kind block =
    let head : length (segment_head kind (length block)) ≡ 6 = refl in
    omega (arith, head, length-append (segment_head kind (length block)) block)

blocks_length : (put : List ℕ → List ℕ) (more : ℕ) → ((block : List ℕ) → length (put block) ≡ length block + more) → (blocks : List (List ℕ))
    → length (flat_map put blocks) ≡ length (flat_map (λ block. block) blocks) + more * length blocks
blocks_length put more each [] = omega arith
blocks_length put more each (block ∷ blocks) =
    omega (arith, length-append (put block) (flat_map put blocks), length-append block (flat_map (λ block. block) blocks), each block, blocks_length put more each blocks, mul-suc more (length blocks))

pub segments_length : (size kind : ℕ) (bytes : List ℕ) → 1 ≤ size → length (segments size kind bytes) ≡ length bytes + 6 * length (blocks size bytes)
unfolding segments
segments_length size kind bytes some =
    omega (arith, blocks_length (segment kind) 6 (segment_length kind) (blocks size bytes), ap length (blocks_join size bytes some))

pub digits_length : (bytes : List ℕ) → length (flat_map digits_of_byte bytes) ≡ 2 * length bytes
digits_length [] = refl
digits_length (byte ∷ bytes) = omega (arith, digits_length bytes)

pub lines_length : (bytes : List ℕ) → length (hexadecimal_lines bytes) ≡ 2 * length bytes + length (blocks 64 (flat_map digits_of_byte bytes))
unfolding hexadecimal_lines
lines_length bytes =
    let digits = flat_map digits_of_byte bytes in
    omega (arith, blocks_length line_of_digits 1 (λ block. length-append block (10 ∷ [])) (blocks 64 digits), ap length (blocks_join 64 digits (omega arith)), digits_length bytes)

-- ---- the lengths of the files

pfb_length : (size : ℕ) (clear private trailer : List ℕ)
    → length (pfb size clear private trailer) ≡ length (segments size 1 clear) + length (segments size 2 (eexec private)) + length (segments size 1 trailer) + 2
unfolding pfb
pfb_length size clear private trailer =
    let first = segments size 1 clear in
    let second = segments size 2 (eexec private) in
    let third = segments size 1 trailer in
    omega (arith, length-append (first ++ second ++ third) (128 ∷ 3 ∷ []), length-append (first ++ second) third, length-append first second)

-- the sum over the parts, where none is too long
pub pfb_sum : (size : ℕ) (clear private trailer : List ℕ) (first second third : ℕ) → has_long_part clear private trailer ≡ false
    → first ≡ length (segments size 1 clear) → second ≡ length (segments size 2 (eexec private)) → third ≡ length (segments size 1 trailer)
    → ◌≡◌ {A = Result ℕ Fault} (Ok (first + second + third + 2)) (length_of (pfb_of size clear private trailer))
pfb_sum size clear private trailer first second third short p q r =
    let sum : first + second + third + 2 ≡ length (pfb size clear private trailer) = omega (arith, p, q, r, pfb_length size clear private trailer) in
    rw short (ap Ok sum)

pfa_length : (clear private trailer : List ℕ) → length (pfa clear private trailer) ≡ length clear + length (hexadecimal_lines (eexec private)) + length trailer
unfolding pfa
pfa_length clear private trailer =
    let lines = hexadecimal_lines (eexec private) in
    omega (arith, length-append (clear ++ lines) trailer, length-append clear lines)

-- the same in hexadecimal
pub pfa_sum : (clear private trailer : List ℕ) (lines : ℕ) → has_long_part clear private trailer ≡ false → lines ≡ length (hexadecimal_lines (eexec private))
    → ◌≡◌ {A = Result ℕ Fault} (Ok (length clear + lines + length trailer)) (length_of (pfa_of clear private trailer))
pfa_sum clear private trailer lines short p =
    let sum : length clear + lines + length trailer ≡ length (pfa clear private trailer) = omega (arith, p, pfa_length clear private trailer) in
    rw short (ap Ok sum)
