-- The lines of a section that don't stand inside an entry.
use Rattle.std.specs.Prelude.{ℕ, Bool, false, not, ◌&&◌, ◌==◌, if◌then◌else◌, List, [], ◌∷◌, drop}
use Rattle.std.specs.List.{list_any, position_or_len}
use Rattle.t1_frac.specs.Ascii.{open_brace}
use Rattle.t1_parts.specs.Entries.{has_brace}
use Rattle.t1_text.specs.Tokens.{uncommented}
use Rattle.t1_notes.specs.declared.line.Line.{Line}
use Rattle.t1_notes.specs.declared.sections.Section.{Section}
use Rattle.t1_notes.specs.LineSections.{opens_entry_of}
use Rattle.t1_notes.specs.Told.{told}

-- profile, notes: whether a line has `{` outside its comment
abbrev pub has_open : List ℕ → Bool
has_open l = list_any (λ c. c == open_brace) (uncommented l)

-- profile, notes: a line after its first `{`
abbrev pub after_brace : List ℕ → List ℕ
after_brace l = drop 1 (drop (position_or_len (λ c. c == open_brace) l) l)

-- profile, notes: whether a line opens an entry of the section, and has no brace behind the `{`
abbrev pub leaves_entry_open : Section → List ℕ → Bool
leaves_entry_open section l = opens_entry_of section l && not (has_brace (after_brace l))

-- profile, notes: whether the nearest of some lines that has a brace, of which the last comes first, opens such an entry
abbrev pub is_entry_open : Section → List Line → Bool
is_entry_open section [] = false
is_entry_open section (l ∷ before) = if has_brace l.text then leaves_entry_open section l.text else is_entry_open section before

-- profile, notes: a line, unless it stands inside an entry that is open, whose last line has `}`; a line with `{` stands in none
abbrev pub head_line_of : Bool → Line → List Line
head_line_of in_entry l = if in_entry && not (has_open l.text) then [] else l ∷ []

-- profile, notes: the lines of a section without those inside its entries
abbrev pub heads : Section → List Line → List Line
heads section ls = told (λ before l. head_line_of (is_entry_open section before) l) [] ls
