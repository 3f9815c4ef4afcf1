-- Number words.
use Rattle.std.specs.Prelude.{fold, ℕ, ◌+◌, ◌-◌, ◌*◌, ◌^◌, ℤ, pos, negsuc, neg_ℤ, Bool, ◌&&◌, nat_lt, if◌then◌else◌, List, drop, length, Option, None, Some}
use Rattle.std.specs.Char.{is_ascii_digit}
use Rattle.std.specs.List.{list_all}
use Rattle.std.specs.Str.Parse.{starts_with_minus}
use Rattle.t1_frac.specs.Ascii.{digit_zero}

-- profile, numbers: a number word is an optional minus and one digit or more
abbrev pub digits_of_word : List ℕ → List ℕ
digits_of_word word = if starts_with_minus word then drop 1 word else word

-- profile, numbers: whether a word is a number word
unfoldable pub is_number_word : List ℕ → Bool
is_number_word word = nat_lt 0 (length (digits_of_word word)) && list_all is_ascii_digit (digits_of_word word)

-- profile, numbers: the value of decimal digits, the highest first
abbrev pub decimal_value : List ℕ → ℕ
decimal_value digits = fold (λ value digit. 10 * value + (digit - digit_zero)) 0 digits

-- profile, numbers: the number of this size, less than nothing after a minus
abbrev pub signed : Bool → ℕ → ℤ
signed minus size = if minus then neg_ℤ (pos size) else pos size

-- profile, numbers: the number that a number word writes
abbrev pub number_written : List ℕ → ℤ
number_written word = signed (starts_with_minus word) (decimal_value (digits_of_word word))

-- profile, numbers: whether a number fits 64 bits
abbrev pub fits_64_bits : ℤ → Bool
fits_64_bits (pos n) = nat_lt n (2 ^ 63)
fits_64_bits (negsuc n) = nat_lt n (2 ^ 63)

-- profile, numbers: the number, or 2^63 - 1 for one that doesn't fit 64 bits
abbrev pub capped : ℤ → ℤ
capped n = if fits_64_bits n then n else pos (2 ^ 63 - 1)

-- profile, numbers: the number of a number word, capped so
unfoldable pub number_word : List ℕ → Option ℤ
number_word word = if is_number_word word then Some (capped (number_written word)) else None
