-- The sections of a text, by its lines.
use Rattle.std.specs.Prelude.{ℕ, Bool, Option, is_some, List, codes}
use Rattle.t1_text.specs.Tokens.{places_from, tokens}
use Rattle.t1_parts.specs.Entries.{opens_subr, opens_glyph}
use Rattle.t1_parts.specs.Sections.{count_between}
use Rattle.t1_notes.specs.declared.sections.Section.{Section}
use Rattle.t1_notes.specs.declared.sections.Section.TheVariants.{Subrs, Glyphs}

-- Type 1 Font Format, Chapter 2: the N of a line that holds `/Subrs` N `array` or `/CharStrings` N
-- `dict`, with its place
abbrev pub section_count : Section → List ℕ → Option (ℕ × List ℕ)
section_count Subrs l = count_between (codes "/Subrs") (codes "array") (places_from 0 l)
section_count Glyphs l = count_between (codes "/CharStrings") (codes "dict") (places_from 0 l)

-- profile, notes: whether a line is that of the section
abbrev pub is_line_of_section : Section → List ℕ → Bool
is_line_of_section section l = is_some (section_count section l)

-- profile, notes: whether a line opens an entry, as `dup N {` opens a Subr and `/NAME {` a glyph
abbrev pub opens_entry_of : Section → List ℕ → Bool
opens_entry_of Subrs l = is_some (opens_subr (tokens l))
opens_entry_of Glyphs l = is_some (opens_glyph (tokens l))
