-- Fonts of kinds that aren't read.
use Rattle.std.specs.Prelude.{ℕ, Bool, ◌&&◌, ◌||◌, not, nat_lt, is_some, if◌then◌else◌, Option, List, length, filter, codes, Result, Ok, Err}
use Rattle.t1_frac.specs.Ascii.{tab}
use Rattle.t1_frac.specs.Outcome.{◌>>=◌}
use Rattle.t1_text.specs.Lines.{begins_with, lines}
use Rattle.t1_parts.specs.declared.item.Item.{Item}
use Rattle.t1_parts.specs.Operator.{text_place}
use Rattle.t1_parts.specs.Sections.{subrs_line, glyphs_line}
use Rattle.t1_disassemble.specs.declared.fault.FontCode.{FontCode}
use Rattle.t1_disassemble.specs.declared.fault.FontCode.TheVariants.{D11, D12, D13}
use Rattle.t1_disassemble.specs.declared.fault.FontFault.{FontFault}
use Rattle.t1_disassemble.specs.declared.fault.FontPlace.TheVariants.{Nowhere, Byte}
use Rattle.t1_disassemble.specs.Outcome.{font_fault_at}

-- profile, faults: bytes without a text in them; else a fault where it first stands
abbrev pub without : List ℕ → FontCode → List ℕ → Result (List ℕ) FontFault
without text code bytes =
    if nat_lt (text_place text bytes) (length bytes) then Err (font_fault_at (Byte (text_place text bytes)) code) else Ok bytes

-- profile, faults: the clear text of a font that is neither a multiple master (Technical Note 5015) nor CID-keyed (Technical Note
-- 5014)
unfoldable pub plain_kind : List ℕ → Result (List ℕ) FontFault
plain_kind clear = without (codes "/WeightVector") D12 clear >>= without (codes "/CIDFontName") D13

-- profile, printing: whether a line of the source is a section line of this kind; lines that begin with a tab are of entries
abbrev pub is_line_of : (List ℕ → Option Item) → List ℕ → Bool
is_line_of kind l = not (begins_with tab l) && is_some (kind l)

-- profile, sections: whether more than one of these lines is of a kind
abbrev pub has_second : (List ℕ → Option Item) → List (List ℕ) → Bool
has_second kind ls = nat_lt 1 (length (filter (is_line_of kind) ls))

-- Type 1 Font Format, 2.4 (Subrs and CharStrings): the lines of a private text with at most one section of a kind; a synthetic
-- font has two
unfoldable pub single_sections : List ℕ → Result (List ℕ) FontFault
single_sections text =
    if has_second subrs_line (lines text) || has_second glyphs_line (lines text) then Err (font_fault_at Nowhere D11) else Ok text
