-- The first entry of a number or of a name.
use Rattle.std.specs.Prelude.{ℕ, Bool, false, nat_eq, is_some, ◌+◌, ◌&&◌, ◌||◌, if◌then◌else◌, Option, None, Some, List, [], ◌∷◌, option_map}
use Rattle.std.specs.Option.{option_and_then}
use Rattle.t1_frac.specs.declared.fault.Code.{Code}
use Rattle.t1_frac.specs.declared.fault.Code.TheVariants.{F9, F10}
use Rattle.t1_text.specs.Names.{decimal_of, name_of_token, up_to}
use Rattle.t1_text.specs.Tokens.{tokens, is_token}
use Rattle.t1_parts.specs.Entries.{opens_glyph, opens_subr}
use Rattle.t1_parts.specs.Sections.{glyphs_line, subrs_line}
use Rattle.t1_run.specs.Run.{Key, Subr, Glyph}
use Rattle.t1_chain.specs.declared.failure.Detail.{Detail}
use Rattle.t1_chain.specs.declared.failure.Detail.TheVariants.{Line, Nothing}

-- profile, entries: the number of the Subr that a line opens
abbrev pub subr_opened : List ℕ → Option ℕ
subr_opened l = option_and_then (λ token. up_to 32000 (decimal_of token)) (opens_subr (tokens l))

-- profile, entries: the name of the glyph that a line opens
abbrev pub glyph_opened : List ℕ → Option (List ℕ)
glyph_opened l = option_and_then name_of_token (opens_glyph (tokens l))

-- profile, faults: the key that a line opens a second time, by the code of its fault
abbrev pub key_opened : Code → List ℕ → Option Key
key_opened F9 l = option_map Subr (subr_opened l)
key_opened F10 l = option_map Glyph (glyph_opened l)
key_opened code l = None

-- profile, entries: whether there is a number, and it is this one
abbrev pub is_this_number : ℕ → Option ℕ → Bool
is_this_number n None = false
is_this_number n (Some m) = nat_eq n m

-- profile, entries: whether a line opens the entry of this key
abbrev pub opens_entry_at : Key → List ℕ → Bool
opens_entry_at (Subr n) l = is_this_number n (subr_opened l)
opens_entry_at (Glyph g) l = is_token g (glyph_opened l)

-- profile, sections: whether a line begins the section in which an entry of this key stands
abbrev pub begins_section_of : Key → List ℕ → Bool
begins_section_of (Subr n) l = is_some (subrs_line l)
begins_section_of (Glyph g) l = is_some (glyphs_line l)

-- profile, entries: the number of the first of these lines that opens the entry of this key in its section, which may have begun; the
-- first line has the number n
abbrev pub first_line_opening : Key → Bool → ℕ → List (List ℕ) → Option ℕ
first_line_opening key begun n [] = None
first_line_opening key begun n (l ∷ ls) =
    if begun && opens_entry_at key l then Some n else first_line_opening key (begun || begins_section_of key l) (n + 1) ls

-- profile, faults: a line that is told, where there is one
abbrev pub line_told : Option ℕ → Detail
line_told None = Nothing
line_told (Some n) = Line n

-- profile, faults: what a fault on this line says beside its code: of an entry that is there twice, the line of the first one
abbrev pub detail_on : List (List ℕ) → Code → List ℕ → Detail
detail_on ls code l = line_told (option_and_then (λ key. first_line_opening key false 1 ls) (key_opened code l))
