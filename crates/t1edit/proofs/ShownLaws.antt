-- Bytes as they are shown are ASCII.
use Rattle.std.proofs.Common.{◌≡◌, ◌<◌, ◌||◌, ◌==◌, ℕ, Bool, true, false, List, [], ◌∷◌, ◌++◌, codes, if◌then◌else◌, refl, arith}
use Rattle.std.specs.Char.{is_ascii_graphic}
use Rattle.std.specs.Str.{IsAscii, IsUtf8}
use Rattle.std.proofs.lemmas.Str.{IsAscii-append, IsUtf8-from_ascii}
use Rattle.std.proofs.lemmas.Str.Ascii.{IsAscii-cons, IsAscii-nil}
use Rattle.hex.specs.Hex.{encode_lower, lower_digits}
use Rattle.hex.proofs.HexLemmas.{IsAscii-encode_with}
use Rattle.t1_frac.specs.Ascii.{space}
use Rattle.t1_fault_texts.specs.Shown.{shown, shown_byte}

ascii_digits : IsAscii lower_digits
ascii_digits =
    IsAscii-cons 48 (codes "123456789abcdef") (omega arith) (IsAscii-cons 49 (codes "23456789abcdef") (omega arith) (IsAscii-cons 50 (codes "3456789abcdef") (omega arith) (IsAscii-cons 51 (codes "456789abcdef") (omega arith) (IsAscii-cons 52 (codes "56789abcdef") (omega arith) (IsAscii-cons 53 (codes "6789abcdef") (omega arith) (IsAscii-cons 54 (codes "789abcdef") (omega arith) (IsAscii-cons 55 (codes "89abcdef") (omega arith) (IsAscii-cons 56 (codes "9abcdef") (omega arith) (IsAscii-cons 57 (codes "abcdef") (omega arith) (IsAscii-cons 97 (codes "bcdef") (omega arith) (IsAscii-cons 98 (codes "cdef") (omega arith) (IsAscii-cons 99 (codes "def") (omega arith) (IsAscii-cons 100 (codes "ef") (omega arith) (IsAscii-cons 101 (codes "f") (omega arith) (IsAscii-cons 102 [] (omega arith) IsAscii-nil)))))))))))))))

-- a byte that is shown as it is
ascii_seen : (c : ℕ) → (c == space || is_ascii_graphic c) ≡ true → c < 128
ascii_seen c seen = grind (arith)

ascii_by : (is_seen : Bool) (c : ℕ) → (is_seen ≡ true → c < 128) → IsAscii (if is_seen then c ∷ [] else codes "\\x" ++ encode_lower (c ∷ []))
ascii_by true c seen = IsAscii-cons c [] (seen refl) IsAscii-nil
ascii_by false c seen =
    IsAscii-append (codes "\\x") (encode_lower (c ∷ [])) (IsAscii-cons 92 (codes "x") (omega arith) (IsAscii-cons 120 [] (omega arith) IsAscii-nil)) (IsAscii-encode_with lower_digits (c ∷ []) ascii_digits)

ascii_byte : (c : ℕ) → IsAscii (shown_byte c)
ascii_byte c = ascii_by (c == space || is_ascii_graphic c) c (ascii_seen c)

ascii : (bytes : List ℕ) → IsAscii (shown bytes)
ascii [] = IsAscii-nil
ascii (c ∷ rest) = IsAscii-append (shown_byte c) (shown rest) (ascii_byte c) (ascii rest)

-- they are text
pub shown_is_utf8 : (bytes : List ℕ) → IsUtf8 (shown bytes)
shown_is_utf8 bytes = IsUtf8-from_ascii (shown bytes) (ascii bytes)
