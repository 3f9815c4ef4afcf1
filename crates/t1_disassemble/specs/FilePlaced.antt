-- Places in a file, as calls answer them.
use Rattle.std.specs.Prelude.{◌≡◌, ℕ, ◌+◌, min, nat_lt, Bool, if◌then◌else◌, List, Result, Ok, Err}
use Rattle.t1_disassemble.specs.declared.fault.FontFault.{FontFault}
use Rattle.t1_disassemble.specs.declared.fault.FontPlace.{FontPlace}
use Rattle.t1_disassemble.specs.declared.fault.FontPlace.TheVariants.{Nowhere, Byte, Entry}
use Rattle.t1_disassemble.specs.declared.fault.FontRefusal.{FontRefusal}
use Rattle.t1_disassemble.specs.declared.fault.FontRefusal.TheVariants as refusals
use Rattle.t1_disassemble.specs.FilePlaces.{place_from}
use Rattle.t1_disassemble.specs.SegmentsRead.{Segment}

-- word: a byte of the parts stands at this place, where the segments are sound
abbrev pub Stands : ℕ → ℕ → Bool → Result (List Segment) FontFault → ℕ → ℕ → Type 0
Stands start end begun (Ok segments) count place = place ≡ place_from start end begun segments count
Stands start end begun (Err fault) count place = Unit {0}

-- word, segments: where a byte stands of a file whose clear text is its first segment, and whose encrypted part is its second
abbrev pub front_place : ℕ → ℕ → ℕ → ℕ
front_place text binary count = if nat_lt count text then 6 + count else 12 + min count (text + binary)

-- word: the number of a place; 0 where it is none of a byte
abbrev pub place_byte : FontPlace → ℕ
place_byte Nowhere = 0
place_byte (Byte count) = count
place_byte (Entry name) = 0

-- word: the same of what is refused
abbrev pub fault_byte : FontRefusal → ℕ
fault_byte (refusals.Fault fault) = place_byte fault.place
fault_byte refusals.Memory = 0

-- word: a place, or this one where it is of a byte
abbrev pub place_moved : ℕ → FontPlace → FontPlace
place_moved to Nowhere = Nowhere
place_moved to (Byte count) = Byte to
place_moved to (Entry name) = Entry name

-- word: what is refused, at this place where it has one of a byte
abbrev pub fault_moved : ℕ → FontRefusal → FontRefusal
fault_moved to (refusals.Fault fault) = refusals.Fault (record { code = fault.code; place = place_moved to fault.place })
fault_moved to refusals.Memory = refusals.Memory
