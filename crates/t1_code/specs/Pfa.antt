-- The PFA file of a font program: the encrypted private text in hexadecimal.
use Rattle.std.specs.Prelude.{ℕ, ◌+◌, ◌-◌, ◌/◌, ◌%◌, nat_lt, if◌then◌else◌, List, [], ◌∷◌, ◌++◌, Result, Ok, Err}
use Rattle.std.specs.List.{flat_map}
use Rattle.t1_frac.specs.Ascii.{digit_zero, letter_a, line_feed}
use Rattle.t1_frac.specs.declared.fault.Code.TheVariants.{F23}
use Rattle.t1_frac.specs.declared.fault.Fault.{Fault}
use Rattle.t1_frac.specs.declared.fault.Place.TheVariants.{Nowhere}
use Rattle.t1_frac.specs.Outcome.{fault_at}
use Rattle.t1_code.specs.Cipher.{eexec}
use Rattle.t1_code.specs.Pfb.{blocks, has_long_part}

-- profile: hexadecimal digits are `0` to `9` and `a` to `f`
abbrev pub hexadecimal_digit : ℕ → ℕ
hexadecimal_digit value = if nat_lt value 10 then digit_zero + value else letter_a + (value - 10)

-- Type 1 Font Format, Chapter 7 (eexec): a byte is two hexadecimal digits, the high one first
abbrev pub digits_of_byte : ℕ → List ℕ
digits_of_byte byte = hexadecimal_digit (byte / 16) ∷ hexadecimal_digit (byte % 16) ∷ []

-- profile: a line ends in LF
abbrev pub line_of_digits : List ℕ → List ℕ
line_of_digits digits = digits ++ line_feed ∷ []

-- profile: lines have 64 digits each, the last one the rest
unfoldable pub hexadecimal_lines : List ℕ → List ℕ
hexadecimal_lines bytes = flat_map line_of_digits (blocks 64 (flat_map digits_of_byte bytes))

-- Type 1 Font Format, Chapter 2: the clear text, the encrypted private text, and the trailer
unfoldable pub pfa : List ℕ → List ℕ → List ℕ → List ℕ
pfa clear private trailer = clear ++ hexadecimal_lines (eexec private) ++ trailer

-- profile: the file of the three parts, or why there is none
abbrev pub pfa_of : List ℕ → List ℕ → List ℕ → Result (List ℕ) Fault
pfa_of clear private trailer =
    if has_long_part clear private trailer then Err (fault_at Nowhere F23) else Ok (pfa clear private trailer)
