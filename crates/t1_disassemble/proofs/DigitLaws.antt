-- Hexadecimal digits read back.
use Rattle.std.proofs.Common.{◌≡◌, ℕ, zero, suc, ◌-◌, ◌+◌, ◌*◌, ◌/◌, ◌%◌, ◌<◌, List, [], ◌∷◌, ◌++◌, length, Some, refl, ap, ◌∙◌, append_assoc, inl, inr, arith}
use Rattle.std.proofs.lemmas.Bool.{cases_lt, lt-ltb, le-ltb, le-leb, lt-leb}
use Rattle.t1_code.specs.Hexadecimal.{in_lines}
use Rattle.t1_code.specs.Pfa.{hexadecimal_digit, digits_of_byte, hexadecimal_lines}
use Rattle.t1_code.proofs.Digits.{lines_are}
use Rattle.t1_disassemble.specs.Laws.{AreBytes}
use Rattle.t1_disassemble.specs.Digits.{digit_value, bytes_of_values, digit_bytes, after_digits}
use Rattle.t1_disassemble.proofs.DigitValues.{blank_passed, digit_first}

low_digit : (v : ℕ) → v < 10 → digit_value (48 + v) ≡ Some v
unfolding digit_value
low_digit v h = rw (le-leb 48 (48 + v) (omega arith), le-leb (48 + v) 57 (omega (arith, h))) (ap Some (omega arith))

high_digit : (w : ℕ) → w < 6 → digit_value (97 + w) ≡ Some (10 + w)
unfolding digit_value
high_digit w h = rw (le-leb 48 (97 + w) (omega arith), lt-leb (97 + w) 57 (omega arith), le-leb 97 (97 + w) (omega arith), le-leb (97 + w) 102 (omega (arith, h))) (ap Some (omega arith))

-- a digit says its value
digit_again : (v : ℕ) → v < 16 → digit_value (hexadecimal_digit v) ≡ Some v
digit_again v h = elim (cases_lt v 10) [
  | inl low ↦ rw (lt-ltb v 10 low) (low_digit v low)
  | inr high ↦ rw (le-ltb v 10 high) (high_digit (v - 10) (omega (arith, h, high)) ∙ ap Some (omega (arith, high)))
]

two_again : (h l high low : ℕ) (more : List ℕ) → digit_value h ≡ Some high → digit_value l ≡ Some low → digit_bytes (h ∷ l ∷ more) ≡ (16 * high + low) ∷ digit_bytes more
two_again h l high low more p q = ap bytes_of_values (digit_first h high (l ∷ more) p ∙ ap (λ values. high ∷ values) (digit_first l low more q))

byte_again : (byte : ℕ) (more : List ℕ) → byte < 256 → digit_bytes (digits_of_byte byte ++ more) ≡ byte ∷ digit_bytes more
byte_again byte more h =
    two_again (hexadecimal_digit (byte / 16)) (hexadecimal_digit (byte % 16)) (byte / 16) (byte % 16) more (digit_again (byte / 16) (omega (arith, h))) (digit_again (byte % 16) (omega arith))
    ∙ ap (λ b. b ∷ digit_bytes more) (omega arith)

feed_again : (more : List ℕ) → digit_bytes (10 ∷ more) ≡ digit_bytes more
feed_again more = ap bytes_of_values (blank_passed 10 more refl)

lined_again : (room : ℕ) (bytes more : List ℕ) → AreBytes bytes → digit_bytes (in_lines room bytes ++ more) ≡ bytes ++ digit_bytes more
lined_again room [] more h = refl
lined_again zero (byte ∷ bytes) more h =
    feed_again (digits_of_byte byte ++ (in_lines 31 bytes ++ more)) ∙ byte_again byte (in_lines 31 bytes ++ more) h.0 ∙ ap (λ l. byte ∷ l) (lined_again 31 bytes more h.1)
lined_again (suc room) (byte ∷ bytes) more h = byte_again byte (in_lines room bytes ++ more) h.0 ∙ ap (λ l. byte ∷ l) (lined_again room bytes more h.1)

-- the lines of digits are their bytes
pub lines_again : (bytes more : List ℕ) → AreBytes bytes → digit_bytes (hexadecimal_lines bytes ++ more) ≡ bytes ++ digit_bytes more
lines_again bytes more h =
    ap (λ l. digit_bytes (l ++ more)) (lines_are bytes) ∙ ap digit_bytes (append_assoc (in_lines 32 bytes) (10 ∷ []) more) ∙ lined_again 32 bytes (10 ∷ more) h
    ∙ ap (λ l. bytes ++ l) (feed_again more)

-- ---- what stands after so many digits

two_passed : (count h l high low : ℕ) (more : List ℕ) → digit_value h ≡ Some high → digit_value l ≡ Some low → after_digits (suc (suc count)) (h ∷ l ∷ more) ≡ after_digits count more
two_passed count h l high low more p q = rw (p, q) refl

byte_passed : (count byte : ℕ) (more : List ℕ) → byte < 256 → after_digits (suc (suc count)) (digits_of_byte byte ++ more) ≡ after_digits count more
byte_passed count byte more h =
    two_passed count (hexadecimal_digit (byte / 16)) (hexadecimal_digit (byte % 16)) (byte / 16) (byte % 16) more (digit_again (byte / 16) (omega (arith, h))) (digit_again (byte % 16) (omega arith))

feed_passed : (count : ℕ) (more : List ℕ) → after_digits (suc count) (10 ∷ more) ≡ after_digits (suc count) more
unfolding digit_value
feed_passed count more = refl

lined_passed : (room count : ℕ) (bytes more : List ℕ) → AreBytes bytes → count ≡ 2 * length bytes → after_digits count (in_lines room bytes ++ more) ≡ more
lined_passed room zero [] more h e = refl
lined_passed room (suc count) [] more h e = absurd (omega (arith, e))
lined_passed room zero (byte ∷ bytes) more h e = absurd (omega (arith, e))
lined_passed room (suc zero) (byte ∷ bytes) more h e = absurd (omega (arith, e))
lined_passed zero (suc (suc count)) (byte ∷ bytes) more h e =
    feed_passed (suc count) (digits_of_byte byte ++ (in_lines 31 bytes ++ more)) ∙ byte_passed count byte (in_lines 31 bytes ++ more) h.0 ∙ lined_passed 31 count bytes more h.1 (omega (arith, e))
lined_passed (suc room) (suc (suc count)) (byte ∷ bytes) more h e =
    byte_passed count byte (in_lines room bytes ++ more) h.0 ∙ lined_passed room count bytes more h.1 (omega (arith, e))

-- after the digits of the bytes comes the end of the last line
pub lines_passed : (bytes more : List ℕ) → AreBytes bytes → after_digits (2 * length bytes) (hexadecimal_lines bytes ++ more) ≡ 10 ∷ more
lines_passed bytes more h =
    ap (λ l. after_digits (2 * length bytes) (l ++ more)) (lines_are bytes) ∙ ap (after_digits (2 * length bytes)) (append_assoc (in_lines 32 bytes) (10 ∷ []) more)
    ∙ lined_passed 32 (2 * length bytes) bytes (10 ∷ more) h refl
