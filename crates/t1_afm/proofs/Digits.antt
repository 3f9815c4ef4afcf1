-- Digits put into a buffer.
use Rattle.std.proofs.Common.{◌≡◌, ◌∙◌, ℕ, ◌+◌, ◌≤◌, ◌<◌, ◌/◌, ◌%◌, List, [], ◌∷◌, ◌++◌, append_assoc, length, take, drop, None, ap, refl, sym, arith}
use Rattle.std.specs.Prelude.{codes}
use Rattle.std.proofs.Math.Seq.{take-add, take-append_seam}
use Rattle.std.proofs.lemmas.Fmt.{decimal_digit, decimal_step}
use Rattle.std.proofs.lemmas.List.{length-append}
use Rattle.std.specs.Fmt.{decimal, digits, signed_decimal}
use Rattle.t1_afm.specs.Afm.{code_number}

-- digits that were put from a place on stand after what was before it
pub digits_put : (old new digits : List ℕ) (place count start : ℕ) → start + length digits ≡ place + count → length digits ≡ count
    → drop start new ≡ digits ++ drop (place + count) old → take start new ≡ take start old → take (place + count) new ≡ take place old ++ digits
digits_put old new digits place count start at size written before =
    let same : start ≡ place = omega (arith, at, size) in
    let behind = ap (λ p. drop p new) (sym same) ∙ written in
    let front = ap (λ p. take p new) (sym same) ∙ before ∙ ap (λ p. take p old) same in
    let kept = ap (λ n. take n (digits ++ drop (place + count) old)) (sym size) ∙ take-append_seam digits (drop (place + count) old) in
    take-add place count new
    ∙ ap (λ l. l ++ take count (drop place new)) front
    ∙ ap (λ l. take place old ++ take count l) behind
    ∙ ap (λ l. take place old ++ l) kept

put-after : (before first between second after : List ℕ) → between ≡ before ++ first → after ≡ between ++ second → after ≡ before ++ (first ++ second)
put-after before first between second after one two = two ∙ ap (λ l. l ++ second) one ∙ append_assoc before first second

-- four texts, a space before each, that were put one after another
pub four_put : (f0 f1 f2 f3 f4 f5 f6 f7 f8 space a b c d : List ℕ) → f1 ≡ f0 ++ space → f2 ≡ f1 ++ a → f3 ≡ f2 ++ space → f4 ≡ f3 ++ b
    → f5 ≡ f4 ++ space → f6 ≡ f5 ++ c → f7 ≡ f6 ++ space → f8 ≡ f7 ++ d → f8 ≡ f0 ++ (space ++ (a ++ (space ++ (b ++ (space ++ (c ++ (space ++ d)))))))
four_put f0 f1 f2 f3 f4 f5 f6 f7 f8 space a b c d e1 e2 e3 e4 e5 e6 e7 e8 =
    let l7 = put-after f6 space f7 d f8 e7 e8 in
    let l6 = put-after f5 c f6 (space ++ d) f8 e6 l7 in
    let l5 = put-after f4 space f5 (c ++ (space ++ d)) f8 e5 l6 in
    let l4 = put-after f3 b f4 (space ++ (c ++ (space ++ d))) f8 e4 l5 in
    let l3 = put-after f2 space f3 (b ++ (space ++ (c ++ (space ++ d)))) f8 e3 l4 in
    let l2 = put-after f1 a f2 (space ++ (b ++ (space ++ (c ++ (space ++ d))))) f8 e2 l3 in
    put-after f0 space f1 (a ++ (space ++ (b ++ (space ++ (c ++ (space ++ d)))))) f8 e1 l2

-- what stands before the width of a glyph without a code
pub no_code : codes "C -1 ; WX " ≡ codes "C " ++ (signed_decimal (code_number None) ++ codes " ; WX ")
unfolding digits
no_code = refl

-- ---- how many digits a number has

pub one_digit : (n : ℕ) → n < 10 → length (decimal n) ≡ 1
one_digit n h = ap length (decimal_digit n h)

digit-more : (n k : ℕ) → 10 ≤ n → n < 10000 → length (decimal (n / 10)) ≡ k → length (decimal n) ≡ k + 1
digit-more n k h small e =
    ap length (decimal_step n h (omega arith))
    ∙ length-append (decimal (n / 10)) ((48 + n % 10) ∷ [])
    ∙ ap (λ m. m + 1) e

pub two_digits : (n : ℕ) → 10 ≤ n → n < 100 → length (decimal n) ≡ 2
two_digits n h small = digit-more n 1 h (omega arith) (one_digit (n / 10) (omega arith))

pub three_digits : (n : ℕ) → 100 ≤ n → n < 1000 → length (decimal n) ≡ 3
three_digits n h small = digit-more n 2 (omega arith) (omega arith) (two_digits (n / 10) (omega arith) (omega arith))

pub four_digits : (n : ℕ) → 1000 ≤ n → n < 10000 → length (decimal n) ≡ 4
four_digits n h small = digit-more n 3 (omega arith) small (three_digits (n / 10) (omega arith) (omega arith))
