-- The codes that an encoding gives to names.
use Rattle.std.specs.Prelude.{ℕ, ◌==◌, if◌then◌else◌, Option, Some, None, List, codes, filter_map, get_or, option_map}
use Rattle.std.specs.List.{find, last_or, range_with_len}
use Rattle.std.specs.Borrow.{Bor}
use Rattle.std.specs.Str.{bytes_eq}
use Rattle.t1_code.specs.Encoding.{standard_name}
use Rattle.t1_parts.specs.SourceParts.{SourceParts}
use Rattle.t1_text.specs.Tokens.{is_token}
use Rattle.t1_parts.specs.Encoding.{slots}
use Rattle.t1_parts.specs.Reading.{standard}

-- profile, encoding: the name of a slot of this code
abbrev pub named_by : ℕ → ℕ × List ℕ → Option (List ℕ)
named_by code slot = if slot.0 == code then Some slot.1 else None

-- profile, encoding: the later of two slots for one code counts
abbrev pub slot_name : List (ℕ × List ℕ) → ℕ → Option (List ℕ)
slot_name slots code = last_or None (filter_map (named_by code) slots)

-- profile, encoding: the lowest code that has the name
unfoldable pub lowest_code : (ℕ → Option (List ℕ)) → List ℕ → Option ℕ
lowest_code names g = find (λ code. is_token g (names code)) (range_with_len 0 256)

-- AFM 4.1, individual character metrics: the lowest code that the encoding gives the name; none for .notdef
abbrev pub code_of : SourceParts → List ℕ → Option ℕ
code_of s g =
    if bytes_eq g (codes ".notdef") then None
    else if standard s then lowest_code standard_name g
    else lowest_code (slot_name (slots s.clear)) g

-- profile: the name at a place of a table
abbrev pub name_at : List (Option (Bor (List ℕ))) → ℕ → Option (List ℕ)
name_at names code = option_map (λ name. name.now) (get_or names code None)

-- profile, encoding: the name that the encoding gives a code
abbrev pub name_of_code : SourceParts → ℕ → Option (List ℕ)
name_of_code s = if standard s then standard_name else slot_name (slots s.clear)
