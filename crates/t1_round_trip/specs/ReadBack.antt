-- Sources whose files are read back.
use Rattle.std.specs.Prelude.{◌≡◌, ℕ, true, List, [], ◌∷◌, ◌++◌, map, Result, Ok}
use Rattle.std.specs.List.{list_all}
use Rattle.t1_frac.specs.declared.fault.Fault.{Fault}
use Rattle.t1_frac.specs.Outcome.{◌>>=◌}
use Rattle.t1_text.specs.Lines.{is_line}
use Rattle.t1_parts.specs.declared.item.Item.{Item}
use Rattle.t1_parts.specs.declared.item.Item.TheVariants.{Plain}
use Rattle.t1_parts.specs.LenIV.{lead}
use Rattle.t1_parts.specs.Operator.{operator}
use Rattle.t1_parts.specs.Parts.{tail_of}
use Rattle.t1_parts.specs.Reading.{reads}
use Rattle.t1_parts.specs.SourceParts.{SourceParts}
use Rattle.t1_font.specs.Assembly.{private_text, file_in}
use Rattle.t1_disassemble.specs.Disassembly.{disassembled}
use Rattle.t1_disassemble.specs.Laws.{plain_item, raw_file, AreBytes, IsReadBack}

-- profile: a source as it comes back: each number word in its one plain spelling
abbrev pub plain_source : SourceParts → SourceParts
plain_source source = record { clear = source.clear; items = map plain_item source.items; tail = source.tail }

-- profile: a source that reads as itself: its items before the last, and the line that closes the encrypted part; its tail is one that reading gives
pub record ReadsAsItself (source : SourceParts) : Type 0 where
  pub before : List Item
  pub last : List ℕ
  pub whole : source.items ≡ before ++ Plain last ∷ []
  pub reads : IsReadBack source.clear (operator source) (lead source) before last
  pub lines : list_all is_line source.tail ≡ true
  pub tail : tail_of source.tail ≡ source.tail

-- profile: the private text of a source is of numbers that bytes hold, as all text that a file gives is
abbrev pub HasBytes : SourceParts → Type 0
HasBytes source = (private : List ℕ) → private_text (lead source) (operator source) source.items ≡ Ok private → AreBytes private

-- profile: the file of the three parts without segments, its encrypted part in binary, which the program doesn't write
abbrev pub raw_of : List ℕ → List ℕ → List ℕ → Result (List ℕ) Fault
raw_of clear private trailer = Ok (raw_file clear private trailer)

-- Type 1 Font Format, 7.2 (eexec): the file of a source without segments, or the first fault of its bodies
unfoldable pub source_raw : SourceParts → Result (List ℕ) Fault
source_raw source = file_in raw_of source

-- profile: what is read back of a font's file is a text of which this very file is assembled, in the same form
pub record IsAssembledAgain (assemble : SourceParts → Result (List ℕ) Fault) (file : List ℕ) : Type 0 where
  pub text : List ℕ
  pub read : disassembled file ≡ Ok text
  pub assembled : (reads text >>= assemble) ≡ Ok file
