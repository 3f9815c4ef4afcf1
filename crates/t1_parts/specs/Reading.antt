-- The source of some bytes, or its first fault.
use Rattle.std.specs.Prelude.{ℕ, Bool, ◌+◌, if◌then◌else◌, Result, Ok, Err, List, length, map, filter_map}
use Rattle.std.specs.List.{list_any}
use Rattle.t1_frac.specs.declared.fault.Code.TheVariants.{F3}
use Rattle.t1_frac.specs.declared.fault.Fault.{Fault}
use Rattle.t1_frac.specs.declared.fault.Place.TheVariants.{Nowhere}
use Rattle.t1_frac.specs.Outcome.{fault_at, ◌>>=◌}
use Rattle.t1_parts.specs.declared.item.Item.{Item}
use Rattle.t1_parts.specs.SourceParts.{SourceParts}
use Rattle.t1_text.specs.Lines.{lines}
use Rattle.t1_parts.specs.Encoding.{clear_check, chooses_standard}
use Rattle.t1_parts.specs.Sections.{is_glyphs_line}
use Rattle.t1_parts.specs.Entries.{NumberedItem, has_numbered}
use Rattle.t1_parts.specs.Private.{private_items}
use Rattle.t1_parts.specs.Parts.{parts_of, tail_of}
use Rattle.t1_parts.specs.Counts.{raised}
use Rattle.t1_parts.specs.LenIV.{said_with_line, lead_check}

-- profile, sources: the items without their line numbers
abbrev pub unnumbered : List NumberedItem → List Item
unnumbered items = map (λ i. i.1) items

-- profile, sources: the fault of the private items as a whole
unfoldable pub whole_check : List NumberedItem → Result (Unit {0}) Fault
whole_check items =
    if has_numbered is_glyphs_line items then (lead_check (filter_map said_with_line items) >>= λ lead. Ok tt)
    else Err (fault_at Nowhere F3)

-- profile, sources: the source of the lines, or the first fault
unfoldable pub reads_lines : List (List ℕ) → Result SourceParts Fault
reads_lines ls = do
  parts ← parts_of ls
  encoded ← clear_check parts.clear
  items ← private_items (length parts.clear + 1) parts.private
  whole ← whole_check items
  Ok (record { clear = parts.clear; items = raised (unnumbered items); tail = tail_of parts.tail })

-- profile, sources: the source of the bytes, or the first fault of reading them
unfoldable pub reads : List ℕ → Result SourceParts Fault
reads bytes = reads_lines (lines bytes)

-- Type 1 Font Format, encoding: whether the encoding is the standard one
abbrev pub standard : SourceParts → Bool
standard s = list_any chooses_standard s.clear
