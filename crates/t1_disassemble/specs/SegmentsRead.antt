-- The segments of a PFB file, and what they hold (Adobe Technical Note 5040, 3.3).
use Rattle.std.specs.Prelude.{ℕ, ◌-◌, ◌==◌, ◌||◌, nat_lt, if◌then◌else◌, List, [], ◌∷◌, ◌++◌, take, drop, length, fold, Option, None, Some, Result, Ok, Err}
use Rattle.std.specs.Int.{w32, from_le_bytes}
use Rattle.t1_frac.specs.Outcome.{◌>>=◌}
use Rattle.t1_text.specs.Lines.{begins_with}
use Rattle.t1_code.specs.Pfb.{marker, ascii_segment, binary_segment, end_of_file}
use Rattle.t1_disassemble.specs.declared.fault.FontCode.{FontCode}
use Rattle.t1_disassemble.specs.declared.fault.FontCode.TheVariants.{D2}
use Rattle.t1_disassemble.specs.declared.fault.FontFault.{FontFault}
use Rattle.t1_disassemble.specs.declared.fault.FontPlace.TheVariants.{Byte}
use Rattle.t1_disassemble.specs.Cuts.{pieces}
use Rattle.t1_disassemble.specs.Outcome.{font_reported_at}

-- Technical Note 5040, 3.3: a segment, of its type
pub record Segment : Type 0 where
  pub kind : ℕ
  pub bytes : List ℕ

-- Technical Note 5040, 3.3: a segment of so many bytes, and the bytes after it
abbrev pub cut_segment : ℕ → ℕ → List ℕ → Result (Segment × List ℕ) FontCode
cut_segment kind count rest =
    if nat_lt (length rest) count then Err D2 else Ok (record { kind = kind; bytes = take count rest }, drop count rest)

-- Technical Note 5040, 3.3: the length of a segment is four bytes, the low one first
abbrev pub segment_after : ℕ → List ℕ → Result (Segment × List ℕ) FontCode
segment_after kind (a ∷ b ∷ c ∷ d ∷ rest) = cut_segment kind (from_le_bytes w32 (a ∷ b ∷ c ∷ d ∷ [])) rest
segment_after kind _ = Err D2

-- profile: what was found, where something may be
abbrev pub some_found : Result (Segment × List ℕ) FontCode → Result (Option (Segment × List ℕ)) FontCode
some_found found = found >>= λ it. Ok (Some it)

-- Technical Note 5040, 3.3: what stands after 128 and a type: the end of the file, or a segment
abbrev pub typed_segment : ℕ → List ℕ → Result (Option (Segment × List ℕ)) FontCode
typed_segment kind rest =
    if kind == end_of_file then Ok None
    else if kind == ascii_segment || kind == binary_segment then some_found (segment_after kind rest)
    else Err D2

-- Technical Note 5040, 3.3: the segment at the front, and the bytes after it; nothing at the end of the file
abbrev pub segment_at : List ℕ → Result (Option (Segment × List ℕ)) FontCode
segment_at [] = Ok None
segment_at (first ∷ []) = Err D2
segment_at (first ∷ kind ∷ rest) = if first == marker then typed_segment kind rest else Err D2

-- profile: the same, with a fault at its place in a file of so many bytes
abbrev pub placed_segment : ℕ → List ℕ → Result (Option (Segment × List ℕ)) FontFault
placed_segment total rest = font_reported_at (Byte (total - length rest)) (segment_at rest)

-- profile: a segment in front of those that come after it; nothing where the file has said its end
abbrev pub before_others : Result (List Segment) FontFault → Option (Segment × List ℕ) → Result (List Segment) FontFault
before_others others None = Ok []
before_others others (Some found) = others >>= λ more. Ok (found.0 ∷ more)

-- profile: what is left after a segment; nothing where there is none
abbrev pub segment_left : Result (Option (Segment × List ℕ)) FontCode → List ℕ
segment_left (Ok (Some found)) = found.1
segment_left _ = []

-- Technical Note 5040, 3.3: the segments that begin at these places of a file of so many bytes, or the first fault
abbrev pub segments_at : ℕ → List (List ℕ) → Result (List Segment) FontFault
segments_at total [] = Ok []
segments_at total (from ∷ others) = placed_segment total from >>= before_others (segments_at total others)

-- Technical Note 5040, 3.3: the segments that are left of a file of so many bytes, one after another, or the first fault
unfoldable pub segments_of : ℕ → List ℕ → Result (List Segment) FontFault
segments_of total rest = segments_at total (pieces (λ bytes. segment_left (segment_at bytes)) rest)

-- Type 1 Font Format, Chapter 2: the clear text, the encrypted part, and the text after it
pub record FontParts : Type 0 where
  pub clear : List ℕ
  pub coded : List ℕ
  pub tail : List ℕ

-- Technical Note 5040, 3.3: binary segments hold the encrypted part; those of text before them the clear text, and those after them the tail
abbrev pub with_segment : FontParts → Segment → FontParts
with_segment parts s =
    if s.kind == binary_segment then record { clear = parts.clear; coded = parts.coded ++ s.bytes; tail = parts.tail }
    else if length parts.coded == 0 then record { clear = parts.clear ++ s.bytes; coded = parts.coded; tail = parts.tail }
    else record { clear = parts.clear; coded = parts.coded; tail = parts.tail ++ s.bytes }

-- profile: the parts with these segments after them, or the fault of the segments
abbrev pub parts_onto : FontParts → Result (List Segment) FontFault → Result FontParts FontFault
parts_onto parts (Ok segments) = Ok (fold with_segment parts segments)
parts_onto parts (Err fault) = Err fault

-- profile: no bytes yet
abbrev pub no_parts : FontParts
no_parts = record { clear = []; coded = []; tail = [] }

-- Technical Note 5040, 3.3: a file that begins with 128 has segments; any other is all clear text, until its eexec is found
unfoldable pub font_parts : List ℕ → Result FontParts FontFault
font_parts bytes =
    if begins_with marker bytes then parts_onto no_parts (segments_of (length bytes) bytes)
    else Ok (record { clear = bytes; coded = []; tail = [] })
