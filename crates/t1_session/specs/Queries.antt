-- The texts that queries show.
use Rattle.std.specs.Prelude.{ℕ, ℤ, pos, negsuc, nat_le, if◌then◌else◌, List, [], ◌∷◌, ◌++◌, map, flat_map, decimal, Option, Some, None, option_map, option_and_then}
use Rattle.t1_frac.specs.Ascii.{line_feed, space}
use Rattle.t1_text.specs.Lines.{joined}
use Rattle.t1_parts.specs.declared.item.Item.{Item}
use Rattle.t1_parts.specs.Printing.{body_line, word_groups}
use Rattle.t1_parts.specs.SourceParts.{SourceParts}
use Rattle.t1_source.specs.Codes.{name_of_code}
use Rattle.t1_afm.specs.Afm.{FontMetrics, char_line, char_named, line_text}
use Rattle.t1_font.specs.Metrics.{all_codes}
use Rattle.t1_refusal.specs.Entries.{entry_words, glyph_named, subr_of}

-- profile, queries: the words of an entry, in the lines that the printed source has
abbrev pub shown_entry : Item → List ℕ
shown_entry item = joined (map body_line (word_groups (entry_words item)))

-- profile, queries: a Subr's number is from 0 to 32000
abbrev pub subr_number : ℤ → Option ℕ
subr_number (pos n) = if nat_le n 32000 then Some n else None
subr_number (negsuc n) = None

-- profile, queries: the first Subr of this number
abbrev pub subr_numbered : ℤ → List Item → Option Item
subr_numbered number items = option_and_then (λ n. subr_of n items) (subr_number number)

-- profile, queries: the words of the glyph of this name
abbrev pub glyph_text : List ℕ → SourceParts → Option (List ℕ)
glyph_text name s = option_map shown_entry (glyph_named name s.items)

-- profile, queries: the words of the Subr of this number
abbrev pub subr_text : ℤ → SourceParts → Option (List ℕ)
subr_text number s = option_map shown_entry (subr_numbered number s.items)

-- profile, queries: the line of the glyph of this name in an AFM file
abbrev pub metrics_line : List ℕ → FontMetrics → Option (List ℕ)
metrics_line name m = option_map (λ c. line_text (char_line c)) (char_named name m.chars)

-- profile, queries: a code and its name, on a line; nothing where it has none
abbrev pub code_line : ℕ → Option (List ℕ) → List ℕ
code_line code None = []
code_line code (Some name) = decimal code ++ (space ∷ (name ++ line_feed ∷ []))

-- profile, queries: the names that the encoding gives codes, a line each, by code
abbrev pub encoding_text : SourceParts → List ℕ
encoding_text s = flat_map (λ code. code_line code (name_of_code s code)) all_codes
