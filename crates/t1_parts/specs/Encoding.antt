-- The encoding of a clear part, and its slots.
use Rattle.std.specs.Prelude.{ℕ, Bool, false, ◌+◌, ◌-◌, ◌*◌, ◌||◌, ◌&&◌, nat_le, if◌then◌else◌, Option, Some, None, Result, Ok, Err, is_some, is_none, List, [], ◌∷◌, length, take, drop, fold, codes, filter_map}
use Rattle.std.specs.List.{list_all, list_any, position_or_len}
use Rattle.std.specs.Option.{option_or}
use Rattle.std.specs.Str.{bytes_eq}
use Rattle.t1_frac.specs.Ascii.{digit_seven, digit_zero}
use Rattle.t1_frac.specs.declared.fault.Code.{Code}
use Rattle.t1_frac.specs.declared.fault.Code.TheVariants.{F5, F6}
use Rattle.t1_frac.specs.declared.fault.Fault.{Fault}
use Rattle.t1_frac.specs.declared.fault.Place.TheVariants.{Nowhere, Line}
use Rattle.t1_frac.specs.Outcome.{fault_at, reported_at, ◌>>=◌}
use Rattle.t1_text.specs.Tokens.{tokens, first_is, last_is}
use Rattle.t1_text.specs.Names.{decimal_of, up_to, name_of_token}

-- profile, encoding: octal digits, the highest first, as a number
abbrev pub octal_of : List ℕ → Option ℕ
octal_of [] = None
octal_of (d ∷ ds) =
    if list_all (λ c. nat_le digit_zero c && nat_le c digit_seven) (d ∷ ds) then Some (fold (λ n c. 8 * n + (c - digit_zero)) 0 (d ∷ ds)) else None

-- profile, encoding: `8#` and octal digits
abbrev pub radix_of : List ℕ → Option ℕ
radix_of t = if bytes_eq (take 2 t) (codes "8#") then octal_of (drop 2 t) else None

-- profile, encoding: CODE is decimal or `8#` with octal digits, 0 to 255
abbrev pub code_of_token : List ℕ → Option ℕ
code_of_token t = up_to 255 (option_or (decimal_of t) (radix_of t))

-- profile: both values, where both are there
abbrev pub both : {X Y : Type 0} → Option X → Option Y → Option (X × Y)
both (Some x) (Some y) = Some (x, y)
both _ _ = None

-- Type 1 Font Format, encoding: the code and the name of a line with exactly the tokens `dup`, CODE, `/NAME`, `put`
abbrev pub slot_of_tokens : List (List ℕ) → Option (ℕ × List ℕ)
slot_of_tokens (dup ∷ code ∷ name ∷ put ∷ []) =
    if bytes_eq dup (codes "dup") && bytes_eq put (codes "put") then both (code_of_token code) (name_of_token name) else None
slot_of_tokens _ = None

-- Type 1 Font Format, encoding: whether the line opens the encoding
abbrev pub opens_encoding : List ℕ → Bool
opens_encoding l = first_is (codes "/Encoding") (tokens l)

-- Type 1 Font Format, encoding: the tokens `/Encoding StandardEncoding`
abbrev pub is_standard : List (List ℕ) → Bool
is_standard (encoding ∷ kind ∷ more) = bytes_eq kind (codes "StandardEncoding")
is_standard _ = false

-- Type 1 Font Format, encoding: the tokens `/Encoding N array`
abbrev pub is_array : List (List ℕ) → Bool
is_array (encoding ∷ size ∷ array ∷ more) = is_some (decimal_of size) && bytes_eq array (codes "array")
is_array _ = false

-- profile, encoding: whether the line ends an array
abbrev pub ends_array : List ℕ → Bool
ends_array l = last_is (codes "def") (tokens l)

-- profile, encoding: whether the line is no slot and begins with `dup`
abbrev pub is_bad_slot : List (List ℕ) → Bool
is_bad_slot ts = first_is (codes "dup") ts && is_none (slot_of_tokens ts)

-- profile, encoding: the lines from the one that opens the encoding
abbrev pub from_encoding : List (List ℕ) → List (List ℕ)
from_encoding clear = drop (position_or_len opens_encoding clear) clear

-- profile, encoding: the lines between the one that opens an array and the one that ends it
abbrev pub array_lines : List (List ℕ) → List (List ℕ)
array_lines [] = []
array_lines (opening ∷ later) = if is_standard (tokens opening) then [] else take (position_or_len ends_array later) later

-- profile, encoding: the slots of a clear part, in their order
abbrev pub slots : List (List ℕ) → List (ℕ × List ℕ)
slots clear = filter_map (λ l. slot_of_tokens (tokens l)) (array_lines (from_encoding clear))

-- profile, encoding: judges the line that opens it, with the lines after it
unfoldable pub opening_check : ℕ → List ℕ → List (List ℕ) → Result (Unit {0}) Fault
opening_check n opening later =
    if is_standard (tokens opening) || (is_array (tokens opening) && list_any ends_array later) then Ok tt
    else Err (fault_at (Line n) F5)

-- profile, encoding: judges a line after the one that opens it: it opens no second one
unfoldable pub later_check : List ℕ → Result (Unit {0}) Code
later_check l = if opens_encoding l then Err F5 else Ok tt

-- profile, encoding: judges a line of the array: nor does that, and it is a slot if it begins with `dup`
unfoldable pub array_check : List ℕ → Result (Unit {0}) Code
array_check l = later_check l >>= λ fine. if is_bad_slot (tokens l) then Err F6 else Ok tt

-- profile, encoding: the first fault that a check finds in lines, of which the first has number n
abbrev pub lines_check : (List ℕ → Result (Unit {0}) Code) → ℕ → List (List ℕ) → Result (Unit {0}) Fault
lines_check check n [] = Ok tt
lines_check check n (l ∷ ls) = reported_at (Line n) (check l) >>= λ fine. lines_check check (n + 1) ls

-- profile, encoding: the first fault of the lines from the one that opens the encoding; a missing one has no place
abbrev pub encoding_check : ℕ → List (List ℕ) → Result (Unit {0}) Fault
encoding_check n [] = Err (fault_at Nowhere F5)
encoding_check n (opening ∷ later) =
    let array = array_lines (opening ∷ later) in
    opening_check n opening later
    >>= λ opened. lines_check array_check (n + 1) array
    >>= λ filled. lines_check later_check (n + 1 + length array) (drop (length array) later)

-- profile, encoding: the first fault of the clear lines
unfoldable pub clear_check : List (List ℕ) → Result (Unit {0}) Fault
clear_check clear = encoding_check (position_or_len opens_encoding clear + 1) (from_encoding clear)

-- Type 1 Font Format, encoding: whether a clear line chooses the standard encoding
abbrev pub chooses_standard : List ℕ → Bool
chooses_standard l = opens_encoding l && is_standard (tokens l)
