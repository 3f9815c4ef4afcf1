-- Files whose first two segments hold the clear text and the encrypted part, which stay where they stand.
use Rattle.std.specs.Prelude.{◌≡◌, ℕ, ◌+◌, ◌<◌, ◌≤◌, true, false, List, [], take, drop, length, Option, Some, None, Result, Ok, Err}
use Rattle.t1_text.specs.Lines.{begins_with}
use Rattle.t1_code.specs.Pfb.{marker}
use Rattle.t1_disassemble.specs.declared.fault.FontFault.{FontFault}
use Rattle.t1_disassemble.specs.declared.fault.FontRefusal.{FontRefusal}
use Rattle.t1_disassemble.specs.FilePlaced.{Stands, front_place}
use Rattle.t1_disassemble.specs.Outcome.{RefusesFont}
use Rattle.t1_disassemble.specs.SegmentsRead.{Segment, FontParts, segments_of, parts_onto, no_parts}

-- word, segments: the parts without a tail
abbrev pub tailless : List ℕ → List ℕ → FontParts
tailless clear coded = record { clear = clear; coded = coded; tail = [] }

-- word, segments: none of these segments holds bytes of the clear text or the encrypted part
abbrev pub AreBehind : Result (List Segment) FontFault → Type 0
AreBehind found = (start end count : ℕ) → Stands start end true found count end

-- word, segments: the first segment of a file has so many bytes of text, and the second so many of binary data, one or more
pub record IsFront (text binary : ℕ) (file : List ℕ) : Type 0 where
  pub marked : begins_with marker file ≡ true
  pub some : 0 < binary
  pub within : 12 + text + binary ≤ length file
  pub parts :
      (total : ℕ)
      → parts_onto no_parts (segments_of total file)
      ≡ parts_onto (tailless (take text (drop 6 file)) (take binary (drop (12 + text) file))) (segments_of total (drop (12 + text + binary) file))
  pub places :
      (total count : ℕ)
      → AreBehind (segments_of total (drop (12 + text + binary) file))
      → Stands 0 0 false (segments_of total file) count (front_place text binary count)

-- word, segments: what a call answers of the segments behind them: a tail where none is binary
abbrev pub GivesTail : {X : Type 0} → (X → List ℕ) → List ℕ → List ℕ → Result (Option X) FontRefusal → Result FontParts FontFault → Type 0
GivesTail view clear coded (Ok None) given = Unit {0}
GivesTail view clear coded (Ok (Some tail)) given = given ≡ Ok (record { clear = clear; coded = coded; tail = view tail })
GivesTail view clear coded (Err refused) given = RefusesFont refused given
