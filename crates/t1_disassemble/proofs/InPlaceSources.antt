-- The source of a file whose first two segments hold the clear text and the encrypted part.
use Rattle.std.proofs.Common.{◌≡◌, ℕ, ◌+◌, true, List, take, drop, length, Result, Ok, Err, sym, ap, ◌∙◌}
use Rattle.t1_frac.specs.Outcome.{◌>>=◌}
use Rattle.t1_text.specs.Lines.{begins_with}
use Rattle.t1_disassemble.specs.declared.fault.FontFault.{FontFault}
use Rattle.t1_disassemble.specs.Disassembly.{source_of, disassembled}
use Rattle.t1_disassemble.specs.FilePlaced.{front_place}
use Rattle.t1_disassemble.specs.FilePlaces.{byte_place, in_file}
use Rattle.t1_disassemble.specs.Front.{after_eexec}
use Rattle.t1_disassemble.specs.InPlace.{tailless, AreBehind, IsFront}
use Rattle.t1_disassemble.specs.SegmentsRead.{FontParts, segments_of, parts_onto, no_parts, font_parts}
use Rattle.t1_disassemble.proofs.FilePlaceLaws.{stands_in_file}
use Rattle.t1_disassemble.proofs.InPlaceLaws.{tailed}

abbrev text_of : List ℕ → Result FontParts FontFault → Result (List ℕ) FontFault
text_of file found = found >>= λ parts. in_file file (source_of parts (after_eexec parts.clear))

-- a file with segments
pub of_segments : (file : List ℕ) (parts : FontParts) → begins_with 128 file ≡ true → parts_onto no_parts (segments_of (length file) file) ≡ Ok parts
    → disassembled file ≡ in_file file (source_of parts (after_eexec parts.clear))
unfolding disassembled font_parts
of_segments file parts marked e = rw marked (ap (text_of file) e)

-- what stands behind the first two segments
abbrev pub left : ℕ → ℕ → List ℕ → Result FontParts FontFault
left text binary file =
    parts_onto (tailless (take text (drop 6 file)) (take binary (drop (12 + text) file))) (segments_of (length file) (drop (12 + text + binary) file))

pub by_front : (file : List ℕ) (text binary : ℕ) → IsFront text binary file → disassembled file ≡ text_of file (left text binary file)
unfolding disassembled font_parts
by_front file text binary front = rw front.marked (ap (text_of file) (front.parts (length file)))

pub source_in_place : (file clear coded tail : List ℕ) (text binary : ℕ) → IsFront text binary file → clear ≡ take text (drop 6 file) → coded ≡ take binary (drop (12 + text) file)
    → left text binary file ≡ Ok (tailed (take text (drop 6 file)) (take binary (drop (12 + text) file)) tail) → disassembled file ≡ in_file file (source_of (tailed clear coded tail) (after_eexec clear))
source_in_place file clear coded tail text binary front p q e =
    by_front file text binary front ∙ ap (text_of file) e
    ∙ ap (λ (l : List ℕ). in_file file (source_of (tailed l (take binary (drop (12 + text) file)) tail) (after_eexec l))) (sym p)
    ∙ ap (λ (l : List ℕ). in_file file (source_of (tailed clear l tail) (after_eexec clear))) (sym q)

pub fault_in_place : (file : List ℕ) (text binary : ℕ) (fault : FontFault) → IsFront text binary file → left text binary file ≡ Err fault → disassembled file ≡ Err fault
fault_in_place file text binary fault front e = by_front file text binary front ∙ ap (text_of file) e

-- where a byte of the first two segments stands, where those behind them have none
pub place_in_front : (file tail : List ℕ) (text binary count : ℕ) → IsFront text binary file → AreBehind (segments_of (length file) (drop (12 + text + binary) file))
    → left text binary file ≡ Ok (tailed (take text (drop 6 file)) (take binary (drop (12 + text) file)) tail) → front_place text binary count ≡ byte_place file count
place_in_front file tail text binary count front are e =
    stands_in_file file (tailed (take text (drop 6 file)) (take binary (drop (12 + text) file)) tail) count (front_place text binary count) front.marked (front.parts (length file) ∙ e)
    (front.places (length file) count are)
