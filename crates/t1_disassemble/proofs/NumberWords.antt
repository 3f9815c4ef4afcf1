-- Numbers of two bytes by their digits.
use Rattle.std.proofs.Common.{◌≡◌, ℕ, ℤ, zero, suc, pos, Bool, true, false, ◌+◌, ◌-◌, ◌*◌, ◌≤◌, ◌<◌, ◌^◌, if◌then◌else◌, List, [], ◌∷◌, ◌++◌, length, take, Result, Ok, refl, sym, ap, ◌∙◌, append_assoc, append-nil, arith}
use Rattle.std.proofs.lemmas.Bool.{lt-ltb, le-ltb}
use Rattle.std.proofs.lemmas.List.{take-take, take-append-le, length-take-le}
use Rattle.std.specs.Fmt.{decimal, signed_decimal}
use Rattle.std.specs.Prelude.{neg_ℤ}
use Rattle.t1_frac.specs.Numbers.{is_number_word}
use Rattle.t1_frac.specs.Outcome.{◌>>=◌}
use Rattle.t1_text.proofs.NumberLaws.{decimal_spells, digits_word, minus_word}
use Rattle.t1_disassemble.specs.KnownNumbers.{signed_digits}
use Rattle.t1_disassemble.specs.Words.{word_at}
use Rattle.t1_disassemble.specs.WordsOnto.{put_first, with_word}
use Rattle.t1_disassemble.specs.declared.fault.FontCode.{FontCode}

-- ---- bytes that wait

-- what waits before a byte that was put there
pub before_byte : (end b : ℕ) (old new : List ℕ) → end ≤ length old → take (end + 1) new ≡ take end old ++ b ∷ [] → take end new ≡ take end old
before_byte end b old new within put =
    let size = length-take-le end old within in
    sym (take-take end (end + 1) new (omega arith)) ∙ ap (take end) put ∙ take-append-le end (take end old) (b ∷ []) (omega (arith, size)) ∙ take-take end end old (omega arith)

-- a blank, a sign and digits, one after another
pub signed_on : (size : ℕ) (is_open is_negative : Bool) (old blank minus digits : List ℕ) → blank ≡ old ++ (if is_open then 32 else 9) ∷ [] → minus ≡ blank ++ (if is_negative then 45 ∷ [] else []) → digits ≡ minus ++ decimal size
    → digits ≡ old ++ (if is_open then 32 else 9) ∷ signed_digits is_negative size
signed_on size is_open true old blank minus digits b m d =
    d ∙ ap (λ (l : List ℕ). l ++ decimal size) (m ∙ ap (λ (l : List ℕ). l ++ 45 ∷ []) b) ∙ append_assoc (old ++ (if is_open then 32 else 9) ∷ []) (45 ∷ []) (decimal size) ∙ append_assoc old ((if is_open then 32 else 9) ∷ []) (45 ∷ decimal size)
signed_on size is_open false old blank minus digits b m d =
    d ∙ ap (λ (l : List ℕ). l ++ decimal size) (m ∙ append-nil blank ∙ b) ∙ append_assoc old ((if is_open then 32 else 9) ∷ []) (decimal size)

-- ---- the word of two bytes

abbrev said : List ℕ → ℤ → Result (List ℕ × List ℕ) FontCode
said rest n = Ok (signed_decimal n, rest)

abbrev after_text : List ℕ → Bool → Result (List ℕ × List ℕ) FontCode → Result (List ℕ × Bool × List ℕ) FontCode
after_text text is_open found = found >>= λ it. Ok (with_word text is_open it.0, is_number_word it.0, it.1)

abbrev put : List ℕ → Bool → List ℕ → List ℕ → Bool → Result (List ℕ × Bool × List ℕ) FontCode
put text is_open w rest is_number = Ok ((text ++ (if is_open then 32 else 9) ∷ w) ++ (if is_number then [] else 10 ∷ []), is_number, rest)

abbrev front : Bool → List ℕ → List ℕ → Result (List ℕ × Bool × List ℕ) FontCode
front is_number rest all = Ok (all, is_number, rest)

pub word_put : (v w : ℕ) (digits text rest : List ℕ) (is_open : Bool) → word_at v (w ∷ rest) ≡ Ok (digits, rest) → is_number_word digits ≡ true
    → put_first text is_open v (w ∷ rest) ≡ Ok (text ++ (if is_open then 32 else 9) ∷ digits, true, rest)
word_put v w digits text rest is_open read number =
    ap (after_text text is_open) read ∙ ap (put text is_open digits rest) number ∙ ap (front true rest) (append-nil (text ++ (if is_open then 32 else 9) ∷ digits))

pub positive_read : (v w : ℕ) (rest : List ℕ) → 247 ≤ v → v < 251 → word_at v (w ∷ rest) ≡ Ok (decimal ((v - 247) * 256 + w + 108), rest)
unfolding word_at
positive_read v w rest low high =
    let some : 32 ≤ v = omega (arith, low) in
    rw (le-ltb v 32 some, le-ltb v 247 low, lt-ltb v 251 high) refl

signed_below : (m : ℕ) → 0 < m → signed_decimal (neg_ℤ (pos m)) ≡ 45 ∷ decimal m
signed_below zero h = absurd (omega (arith, h))
signed_below (suc m) h = refl

pub negative_read : (v w : ℕ) (rest : List ℕ) → 251 ≤ v → v < 255 → word_at v (w ∷ rest) ≡ Ok (45 ∷ decimal ((v - 251) * 256 + w + 108), rest)
unfolding word_at
negative_read v w rest low high =
    let some : 32 ≤ v = omega (arith, low) in
    let past : 247 ≤ v = omega (arith, low) in
    rw (le-ltb v 32 some, le-ltb v 247 past, le-ltb v 251 low, lt-ltb v 255 high)
    (ap (λ (l : List ℕ). Ok (l, rest)) (signed_below ((v - 251) * 256 + w + 108) (omega arith)))

pub positive_number : (v w : ℕ) → v < 255 → w < 256 → is_number_word (decimal ((v - 247) * 256 + w + 108)) ≡ true
positive_number v w high byte =
    let n = (v - 247) * 256 + w + 108 in
    let small : n < 2 ^ 64 = omega (arith, byte, high) in
    (digits_word (decimal n) n (decimal_spells n small)).0

pub negative_number : (v w : ℕ) → v < 255 → w < 256 → is_number_word (45 ∷ decimal ((v - 251) * 256 + w + 108)) ≡ true
negative_number v w high byte =
    let n = (v - 251) * 256 + w + 108 in
    let small : n < 2 ^ 64 = omega (arith, byte, high) in
    (minus_word (decimal n) n (decimal_spells n small)).0
