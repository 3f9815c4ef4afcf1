-- A source that is made of parts without faults.
use Rattle.std.proofs.Common.{◌≡◌, ℕ, ◌+◌, Ok, List, length, refl}
use Rattle.t1_text.specs.Lines.{lines}
use Rattle.t1_parts.specs.declared.item.Item.{Item}
use Rattle.t1_parts.specs.Counts.{raised}
use Rattle.t1_parts.specs.Encoding.{clear_check}
use Rattle.t1_parts.specs.Entries.{NumberedItem}
use Rattle.t1_parts.specs.Parts.{ThreeParts, parts_of, tail_of}
use Rattle.t1_parts.specs.Private.{private_items}
use Rattle.t1_parts.specs.Reading.{unnumbered, whole_check, reads_lines, reads}

-- it is the one that is read
pub made_is_read : (bytes : List ℕ) (p : ThreeParts) (ns : List NumberedItem) (clear : List (List ℕ)) (items : List Item) (tail : List (List ℕ)) → parts_of (lines bytes) ≡ Ok p → clear_check p.clear ≡ Ok tt
    → private_items (length p.clear + 1) p.private ≡ Ok ns → whole_check ns ≡ Ok tt → clear ≡ p.clear → items ≡ raised (unnumbered ns) → tail ≡ tail_of p.tail
    → reads bytes ≡ Ok (record { clear = clear; items = items; tail = tail })
unfolding reads reads_lines
made_is_read bytes p ns clear items tail cut encoded read whole_ok is_clear is_items is_tail = rw (cut, encoded, read, whole_ok, is_clear, is_items, is_tail) refl
