-- The source of a font's file.
use Rattle.std.specs.Prelude.{ℕ, ◌+◌, ◌*◌, ◌-◌, ◌==◌, if◌then◌else◌, Option, None, Some, List, ◌++◌, drop, length, Result, Ok, Err}
use Rattle.t1_frac.specs.Outcome.{◌>>=◌}
use Rattle.t1_text.specs.Lines.{lines, joined, before_rest}
use Rattle.t1_parts.specs.Parts.{tail_of}
use Rattle.t1_disassemble.specs.declared.fault.FontCode.TheVariants.{D1}
use Rattle.t1_disassemble.specs.declared.fault.FontFault.{FontFault}
use Rattle.t1_disassemble.specs.declared.fault.FontPlace.TheVariants.{Nowhere}
use Rattle.t1_disassemble.specs.CutDigits.{with_digits}
use Rattle.t1_disassemble.specs.Decipher.{decrypted_private}
use Rattle.t1_disassemble.specs.Digits.{digit_bytes, after_digits, is_hexadecimal}
use Rattle.t1_disassemble.specs.FilePlaces.{in_file}
use Rattle.t1_disassemble.specs.Front.{after_eexec, past_line, past_spaces}
use Rattle.t1_disassemble.specs.Kinds.{plain_kind, single_sections}
use Rattle.t1_disassemble.specs.Outcome.{font_fault_at, font_reported_at}
use Rattle.t1_disassemble.specs.PrivateText.{read_private_text}
use Rattle.t1_disassemble.specs.SegmentsRead.{FontParts, font_parts}
use Rattle.t1_disassemble.specs.Settings.{reading_operator, leading_bytes}
use Rattle.t1_disassemble.specs.Standing.{stands}

-- Type 1 Font Format, 7.2 (eexec): the encrypted bytes, of their digits where they are in hexadecimal
abbrev pub coded_bytes : List ℕ → List ℕ
coded_bytes coded = if is_hexadecimal coded then digit_bytes coded else coded

-- profile: what stands after so many encrypted bytes, and after the end of the line where they are digits
abbrev pub after_coded : List ℕ → ℕ → List ℕ
after_coded coded count = if is_hexadecimal coded then past_line (after_digits (2 * count) coded) else drop count coded

-- profile: the text after the encrypted part: that of a file's segments, else what the private text leaves
abbrev pub tail_after : FontParts → List ℕ → ℕ → List ℕ
tail_after parts coded count = if length parts.coded == 0 then after_coded coded count else parts.tail

-- profile: how many bytes of the clear text and of the encrypted part's segments stand before the encrypted ones
abbrev pub coded_place : FontParts → List ℕ → ℕ
coded_place parts coded = length parts.clear + length parts.coded - length coded

-- Type 1 Font Format, Chapter 2: the lines of the private text that this encrypted part holds, and those of the tail
abbrev pub private_source : FontParts → List ℕ → List ℕ → Result (List ℕ) FontFault
private_source parts coded plain =
    font_reported_at Nowhere (leading_bytes (lines plain)) >>= λ lead.
    with_digits (coded_place parts coded) coded (read_private_text (reading_operator (lines plain)) lead plain) >>= λ private.
    single_sections private.0 >>= λ single.
    stands (reading_operator (lines plain)) lead plain >>= λ kept.
    Ok (private.0 ++ joined (tail_of (lines (tail_after parts coded (4 + (length plain - length private.1))))))

-- Type 1 Font Format, 7.2 (eexec): the same, of the encrypted part alone
abbrev pub coded_source : FontParts → List ℕ → Result (List ℕ) FontFault
coded_source parts coded = private_source parts coded (decrypted_private (coded_bytes coded))

-- Type 1 Font Format, Chapter 2: the lines of the clear text, those of the private text, and the tail
abbrev pub source_of : FontParts → Option (List ℕ) → Result (List ℕ) FontFault
source_of parts None = plain_kind parts.clear >>= λ clear. Err (font_fault_at Nowhere D1)
source_of parts (Some after) =
    plain_kind (before_rest parts.clear after) >>= λ clear.
    coded_source parts (past_spaces (after ++ parts.coded)) >>= λ others. Ok (joined (lines clear) ++ others)

-- Type 1 Font Format, Chapter 2: the source of a font's file, or its first fault
unfoldable pub disassembled : List ℕ → Result (List ℕ) FontFault
disassembled file = font_parts file >>= λ parts. in_file file (source_of parts (after_eexec parts.clear))
