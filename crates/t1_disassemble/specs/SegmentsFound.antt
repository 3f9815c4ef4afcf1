-- Segments as the code hands them on.
use Rattle.std.specs.Prelude.{List, ℕ, Option, option_map}
use Rattle.t1_disassemble.specs.declared.segments.Found.{Found}
use Rattle.t1_disassemble.specs.SegmentsRead.{Segment}

-- profile: a segment, and the bytes after it
abbrev pub found_segment : Found → Segment × List ℕ
found_segment found = (record { kind = found.kind; bytes = found.bytes.now }, found.after.now)

-- profile: the same, where there is one
abbrev pub found_maybe : Option Found → Option (Segment × List ℕ)
found_maybe found = option_map found_segment found
