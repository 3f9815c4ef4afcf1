-- The lines of a private text, made of the charstrings that are kept.
use Rattle.std.specs.Prelude.{ℕ, List, [], ◌∷◌, ◌++◌, Option, Some, None, decimal}
use Rattle.std.specs.List.{flat_map}
use Rattle.t1_frac.specs.Ascii.{line_feed}
use Rattle.t1_parts.specs.declared.item.Item.{Item}
use Rattle.t1_parts.specs.declared.item.Item.TheVariants.{Plain, Section, Subr, Glyph}
use Rattle.t1_code.specs.Pfb.{entry_text}
use Rattle.t1_charstrings.specs.declared.entries.Charstrings.{Charstrings}
use Rattle.t1_charstrings.specs.declared.lines.KeptLines.{KeptLines}
use Rattle.t1_charstrings.specs.declared.lines.KeptLines.TheVariants as made
use Rattle.t1_charstrings.specs.Entries.{KeptCharstring, glyph_charstring, subr_charstring}

-- Type 1 Font Format, Chapter 2: the line of an entry, and nothing where its charstring isn't kept
abbrev pub kept_entry_line : List ℕ → List ℕ → Option KeptCharstring → List ℕ
kept_entry_line operator closing None = []
kept_entry_line operator closing (Some kept) = entry_text kept.head operator kept.charstring closing

-- Type 1 Font Format, Chapter 2: the line of an item of the private part
abbrev pub kept_line : Charstrings → List ℕ → Item → List ℕ
kept_line c operator (Plain line) = line ++ line_feed ∷ []
kept_line c operator (Section before count after) = before ++ decimal count ++ after ++ line_feed ∷ []
kept_line c operator (Subr number words closing) = kept_entry_line operator closing (subr_charstring c.subrs.entries number)
kept_line c operator (Glyph name words closing) = kept_entry_line operator closing (glyph_charstring c.glyphs.entries name)

-- word: the lines of the items, one after another
abbrev pub kept_lines_text : Charstrings → List ℕ → List Item → List ℕ
kept_lines_text c operator items = flat_map (kept_line c operator) items

-- word: the bytes of lines that are ready to be written
abbrev pub made_text : KeptLines → List ℕ
made_text (made.Text bytes) = bytes.items
made_text (made.Entry entry operator closing) = entry_text entry.now.head operator.now entry.now.charstring closing.now

-- word: the bytes of all such lines, and of the text behind them
abbrev pub made_texts : List KeptLines → List ℕ → List ℕ
made_texts lines text = flat_map made_text lines ++ text
