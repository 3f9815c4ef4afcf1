-- What the private text says before its first section: the reading operator and lenIV.
use Rattle.std.specs.Prelude.{ℕ, Bool, ◌||◌, ◌-◌, is_some, take, length, if◌then◌else◌, Option, None, unwrap_or, ok_or, Some, List, [], ◌∷◌, codes, Result, Ok, Err}
use Rattle.std.specs.Char.{is_ascii_digit}
use Rattle.std.specs.List.{suffix_len}
use Rattle.std.specs.Str.{bytes_eq}
use Rattle.t1_text.specs.Lines.{trimmed}
use Rattle.t1_text.specs.Tokens.{tokens, places_from, uncommented, after_token, is_token}
use Rattle.t1_parts.specs.Parts.{ends_in, holds}
use Rattle.t1_parts.specs.LenIV.{lead_of_token}
use Rattle.t1_parts.specs.Operator.{operator_on}
use Rattle.t1_parts.specs.Sections.{subrs_line, glyphs_line}
use Rattle.t1_disassemble.specs.declared.fault.FontCode.{FontCode}
use Rattle.t1_disassemble.specs.declared.fault.FontCode.TheVariants.{D9, D10}

-- Type 1 Font Format, 2.4 (Subrs and CharStrings): whether a line is the Subrs line or the CharStrings line
abbrev pub heads_section : List ℕ → Bool
heads_section l = is_some (subrs_line l) || is_some (glyphs_line l)

-- profile, layouts: without the digits at its end
abbrev pub undigited : List ℕ → List ℕ
undigited l = take (length l - suffix_len is_ascii_digit l) l

-- profile, layouts: whether a line ends in `/Subrs` or `/CharStrings`
abbrev pub ends_in_key : List ℕ → Bool
ends_in_key l = ends_in (codes "/Subrs") l || ends_in (codes "/CharStrings") l

-- profile, layouts: whether a line ends in a section's name, or in that and digits, so that the section line may go on with the next
abbrev pub begins_section : List ℕ → Bool
begins_section l = ends_in_key l || ends_in_key (undigited (trimmed l))

-- Type 1 Font Format, 2.4 (Subrs and CharStrings): whether a section begins on a line
abbrev pub opens_section : List ℕ → Bool
opens_section l = heads_section l || begins_section (uncommented l)

-- Type 1 Font Format, 2.4 (Subrs and CharStrings): whether a token is a section's name
abbrev pub is_section_name : List ℕ → Bool
is_section_name t = bytes_eq t (codes "/Subrs") || bytes_eq t (codes "/CharStrings")

-- Type 1 Font Format, 2.4 (Subrs and CharStrings): where the first of these tokens that is a section's name stands, or another place
abbrev pub name_place : ℕ → List (ℕ × List ℕ) → ℕ
name_place other [] = other
name_place other (t ∷ ts) = if is_section_name t.1 then t.0 else name_place other ts

-- profile, layouts: what stands on a line before the first section's name
abbrev pub before_section : List ℕ → List ℕ
before_section l = take (name_place (length l) (places_from 0 l)) l

-- Type 1 Font Format, 2.4 (RD): the operator that a line defines, else RD
abbrev pub operator_said : List ℕ → List ℕ
operator_said l = if holds (codes "string currentfile") l then unwrap_or (operator_on l) (codes "RD") else codes "RD"

-- Type 1 Font Format, 2.4 (RD): the operator that the first line with `string currentfile` defines, before the first section; else RD
abbrev pub reading_operator : List (List ℕ) → List ℕ
reading_operator [] = codes "RD"
reading_operator (l ∷ ls) =
    if opens_section l then operator_said (before_section l)
    else if holds (codes "string currentfile") l then unwrap_or (operator_on l) (codes "RD")
    else reading_operator ls

-- Type 1 Font Format, lenIV: what a line says of it, the token after `/lenIV`, or that there is none
abbrev pub said_on : List ℕ → Option (Option (List ℕ))
said_on l = after_token (codes "/lenIV") (tokens l)

-- Type 1 Font Format, lenIV: a number from 0 to 64; -1 says that charstrings aren't encrypted
abbrev pub lead_said : Option (List ℕ) → Result ℕ FontCode
lead_said token = if is_token (codes "-1") token then Err D10 else ok_or (lead_of_token token) D9

-- Type 1 Font Format, lenIV: the number that is said, or 4
abbrev pub lead_before : Option (Option (List ℕ)) → Result ℕ FontCode
lead_before None = Ok 4
lead_before (Some token) = lead_said token

-- Type 1 Font Format, lenIV: the number of leading bytes that the first line that speaks of it says, before the first section; else 4
abbrev pub leading_bytes : List (List ℕ) → Result ℕ FontCode
leading_bytes [] = Ok 4
leading_bytes (l ∷ ls) =
    if opens_section l then lead_before (said_on (before_section l))
    else if is_some (said_on l) then lead_said (unwrap_or (said_on l) None)
    else leading_bytes ls
