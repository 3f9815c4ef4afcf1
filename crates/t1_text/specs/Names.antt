-- Names and numbers.
use Rattle.std.specs.Prelude.{ℕ, Bool, not, ◌&&◌, ◌==◌, nat_le, if◌then◌else◌, Option, Some, None, List, [], ◌∷◌, length}
use Rattle.std.specs.Char.{is_ascii_digit}
use Rattle.std.specs.List.{list_all}
use Rattle.t1_frac.specs.Ascii.{first_printed, last_printed, semicolon, slash}
use Rattle.t1_frac.specs.Numbers.{decimal_value}
use Rattle.t1_text.specs.Tokens.{is_regular}

-- profile, names: a byte of a name: one that prints, none of ( ) < > [ ] { } / % ;
abbrev pub is_name_byte : ℕ → Bool
is_name_byte c = nat_le first_printed c && nat_le c last_printed && is_regular c && not (c == semicolon)

-- profile, names: 1 to 127 such bytes
abbrev pub is_name : List ℕ → Bool
is_name n = nat_le 1 (length n) && nat_le (length n) 127 && list_all is_name_byte n

-- profile, names: the NAME of a token `/NAME`
abbrev pub name_of_token : List ℕ → Option (List ℕ)
name_of_token [] = None
name_of_token (c ∷ name) = if c == slash && is_name name then Some name else None

-- profile, numbers: one or more decimal digits, as a number
abbrev pub decimal_of : List ℕ → Option ℕ
decimal_of [] = None
decimal_of (d ∷ ds) = if list_all is_ascii_digit (d ∷ ds) then Some (decimal_value (d ∷ ds)) else None

-- profile, numbers: the number, where it is at most the limit
abbrev pub up_to : ℕ → Option ℕ → Option ℕ
up_to limit None = None
up_to limit (Some n) = if nat_le n limit then Some n else None

-- profile, sections: a count of 1 to 9 digits
abbrev pub is_count : List ℕ → Bool
is_count n = nat_le 1 (length n) && nat_le (length n) 9 && list_all is_ascii_digit n
