-- Hexadecimal digits read as bytes.
use Rattle.std.specs.Prelude.{ℕ, zero, suc, ◌+◌, ◌-◌, ◌*◌, ◌&&◌, ◌||◌, nat_le, Bool, is_some, if◌then◌else◌, Option, None, Some, List, [], ◌∷◌, length, take, take_while, filter_map}
use Rattle.std.specs.Char.{is_ascii_digit}
use Rattle.std.specs.List.{list_all, prefix_len}
use Rattle.t1_frac.specs.Words.{is_blank}

-- PostScript Language Reference, hexadecimal digits: `0` to `9`, `a` to `f` and `A` to `F`
unfoldable pub digit_value : ℕ → Option ℕ
digit_value c =
    if is_ascii_digit c then Some (c - 48)
    else if nat_le 97 c && nat_le c 102 then Some (c - 87)
    else if nat_le 65 c && nat_le c 70 then Some (c - 55)
    else None

-- PostScript Language Reference, hexadecimal digits: whether a byte is one
abbrev pub is_digit : ℕ → Bool
is_digit c = is_some (digit_value c)

-- Type 1 Font Format, 7.2 (eexec): whether a byte is a digit, or a blank, which may stand anywhere among digits
abbrev pub is_digit_or_blank : ℕ → Bool
is_digit_or_blank c = is_blank c || is_digit c

-- Type 1 Font Format, 7.2 (eexec): the values of the digits before the first byte that is neither a digit nor a blank
abbrev pub digit_values : List ℕ → List ℕ
digit_values text = filter_map digit_value (take_while is_digit_or_blank text)

-- Type 1 Font Format, 7.2 (eexec): two digits are a byte, the high one first; a digit that is left alone is none
abbrev pub bytes_of_values : List ℕ → List ℕ
bytes_of_values (high ∷ low ∷ values) = (16 * high + low) ∷ bytes_of_values values
bytes_of_values _ = []

-- Type 1 Font Format, 7.2 (eexec): the bytes that are written in digits
abbrev pub digit_bytes : List ℕ → List ℕ
digit_bytes text = bytes_of_values (digit_values text)

-- Type 1 Font Format, 7.2 (eexec): what stands after so many digits
abbrev pub after_digits : ℕ → List ℕ → List ℕ
after_digits zero text = text
after_digits (suc count) [] = []
after_digits (suc count) (c ∷ rest) = if is_digit c then after_digits count rest else after_digits (suc count) rest

-- Type 1 Font Format, 7.2 (eexec): the encrypted part is in hexadecimal where its first four bytes are digits
abbrev pub is_hexadecimal : List ℕ → Bool
is_hexadecimal bytes = nat_le 4 (length bytes) && list_all is_digit (take 4 bytes)

-- Type 1 Font Format, 7.2 (eexec): how many bytes there are before the first that is neither a digit nor a blank
abbrev pub digits_len : List ℕ → ℕ
digits_len text = prefix_len is_digit_or_blank text
