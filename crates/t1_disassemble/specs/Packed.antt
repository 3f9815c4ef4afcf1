-- Lines of a source in which charstrings stand as their bytes.
use Rattle.std.specs.Prelude.{◌≡◌, ℕ, ◌+◌, ◌≤◌, ◌==◌, min, Bool, true, List, [], ◌∷◌, ◌++◌, take, drop, length, filter, Option}
use Rattle.t1_frac.specs.Ascii.{line_feed}
use Rattle.t1_text.specs.Lines.{lines}
use Rattle.t1_parts.specs.declared.item.Item.{Item}
use Rattle.t1_parts.specs.Sections.{subrs_line, glyphs_line}
use Rattle.t1_disassemble.specs.declared.packed.Cut.{Cut}
use Rattle.t1_disassemble.specs.Kinds.{is_line_of}
use Rattle.t1_disassemble.specs.SoundWords.{code_lines}

-- word: the text of lines and of charstrings between them: so many bytes of lines, and the words of so many bytes behind them
abbrev pub packed_text : List Cut → List ℕ → List ℕ → List ℕ
packed_text [] texts codes = texts
packed_text (c ∷ cuts) texts codes = take c.lines texts ++ (code_lines (take c.code codes) ++ packed_text cuts (drop c.lines texts) (drop c.code codes))

-- word: how many bytes of lines stand before the last charstring
abbrev pub lines_len : List Cut → ℕ
lines_len [] = 0
lines_len (c ∷ cuts) = c.lines + lines_len cuts

-- word: how many bytes the charstrings have
abbrev pub codes_len : List Cut → ℕ
codes_len [] = 0
codes_len (c ∷ cuts) = c.code + codes_len cuts

-- word: whether the last byte of a text ends a line
abbrev pub ends_after : ℕ → List ℕ → Bool
ends_after c [] = c == line_feed
ends_after c (d ∷ rest) = ends_after d rest

-- word: whether a text is of whole lines
abbrev pub is_ended : List ℕ → Bool
is_ended [] = true
is_ended (c ∷ rest) = ends_after c rest

-- word: how many section lines of a kind a text has, of which two are counted
abbrev pub packed_section_count : (List ℕ → Option Item) → List ℕ → ℕ
packed_section_count kind text = min 2 (length (filter (is_line_of kind) (lines text)))

-- word: what is true of such lines and charstrings
pub record IsPacked (cuts : List Cut) (texts codes : List ℕ) (cut subrs glyphs : ℕ) : Type 0 where
  pub lines_before : lines_len cuts ≡ cut
  pub within : cut ≤ length texts
  pub coded : codes_len cuts ≡ length codes
  pub ended : is_ended (packed_text cuts texts codes) ≡ true
  pub subrs_are : subrs ≡ packed_section_count subrs_line (packed_text cuts texts codes)
  pub glyphs_are : glyphs ≡ packed_section_count glyphs_line (packed_text cuts texts codes)
