-- Where a file has the bytes of its clear text and its encrypted part.
use Rattle.std.specs.Prelude.{ℕ, ◌+◌, ◌-◌, ◌==◌, ◌&&◌, ◌||◌, not, nat_lt, Bool, false, if◌then◌else◌, List, [], ◌∷◌, length, Result, Ok, Err}
use Rattle.t1_text.specs.Lines.{begins_with}
use Rattle.t1_code.specs.Pfb.{marker, binary_segment}
use Rattle.t1_disassemble.specs.declared.fault.FontFault.{FontFault}
use Rattle.t1_disassemble.specs.declared.fault.FontPlace.{FontPlace}
use Rattle.t1_disassemble.specs.declared.fault.FontPlace.TheVariants.{Nowhere, Byte, Entry}
use Rattle.t1_disassemble.specs.SegmentsRead.{Segment, segments_of}

-- Technical Note 5040, 3.3: whether a segment holds text of the tail: the encrypted part has begun before it
abbrev pub is_behind : Bool → Segment → Bool
is_behind begun s = begun && not (s.kind == binary_segment)

-- Technical Note 5040, 3.3: whether the encrypted part has begun with a segment or before it
abbrev pub has_begun : Bool → Segment → Bool
has_begun begun s = begun || (s.kind == binary_segment && nat_lt 0 (length s.bytes))

-- profile, faults: where the byte stands that has so many before it in the clear text and the encrypted part, of the
-- segments from one on that begins after `start` bytes of the file; where they have no such byte, the end of the last that they have
abbrev pub place_from : ℕ → ℕ → Bool → List Segment → ℕ → ℕ
place_from start end begun [] count = end
place_from start end begun (s ∷ more) count =
    if is_behind begun s then place_from (start + 6 + length s.bytes) end begun more count
    else if nat_lt count (length s.bytes) then start + 6 + count
    else place_from (start + 6 + length s.bytes) (start + 6 + length s.bytes) (has_begun begun s) more (count - length s.bytes)

-- profile, faults: the same, of all segments of a file, which are sound
abbrev pub place_among : Result (List Segment) FontFault → ℕ → ℕ
place_among (Ok segments) count = place_from 0 0 false segments count
place_among (Err fault) count = count

-- profile, faults: how many bytes a file has before the byte that has so many before it in the clear text and the encrypted part
abbrev pub byte_place : List ℕ → ℕ → ℕ
byte_place file count = if begins_with marker file then place_among (segments_of (length file) file) count else count

-- profile, faults: a place in the clear text and the encrypted part, as a place in the file
abbrev pub place_in_file : List ℕ → FontPlace → FontPlace
place_in_file file Nowhere = Nowhere
place_in_file file (Byte count) = Byte (byte_place file count)
place_in_file file (Entry name) = Entry name

-- profile, faults: what is read of the parts of a file, or its first fault with the place in the file
abbrev pub in_file : {X : Type 0} → List ℕ → Result X FontFault → Result X FontFault
in_file file (Ok x) = Ok x
in_file file (Err fault) = Err (record { code = fault.code; place = place_in_file file fault.place })
