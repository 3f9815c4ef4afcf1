-- The source of an encrypted part, after other lines.
use Rattle.std.specs.Prelude.{ℕ, ◌+◌, ◌-◌, false, List, [], ◌++◌, drop, length, Result, Ok}
use Rattle.t1_frac.specs.Outcome.{◌>>=◌}
use Rattle.t1_text.specs.Lines.{lines, joined}
use Rattle.t1_parts.specs.Parts.{tail_of}
use Rattle.t1_disassemble.specs.declared.fault.FontFault.{FontFault}
use Rattle.t1_disassemble.specs.declared.fault.FontPlace.TheVariants.{Nowhere}
use Rattle.t1_disassemble.specs.CutDigits.{with_digits}
use Rattle.t1_disassemble.specs.Decipher.{decrypted_private}
use Rattle.t1_disassemble.specs.Disassembly.{coded_bytes, coded_place, tail_after}
use Rattle.t1_disassemble.specs.Kinds.{single_sections}
use Rattle.t1_disassemble.specs.Outcome.{font_reported_at}
use Rattle.t1_disassemble.specs.PiecesOnto.{private_onto}
use Rattle.t1_disassemble.specs.SegmentsRead.{FontParts}
use Rattle.t1_disassemble.specs.Settings.{reading_operator, leading_bytes}
use Rattle.t1_disassemble.specs.Standing.{stands}

-- word: the lines of the private text and of the tail, after a text
abbrev pub plain_onto : List ℕ → FontParts → List ℕ → List ℕ → Result (List ℕ) FontFault
plain_onto text parts coded plain =
    font_reported_at Nowhere (leading_bytes (lines plain)) >>= λ lead.
    with_digits (coded_place parts coded) coded (private_onto (reading_operator (lines plain)) lead text false plain) >>= λ private.
    single_sections (drop (length text) private.0) >>= λ single.
    stands (reading_operator (lines plain)) lead plain >>= λ kept.
    Ok (private.0 ++ joined (tail_of (lines (tail_after parts coded (4 + (length plain - length private.1))))))

-- word: the same, of the encrypted part alone
abbrev pub source_onto : List ℕ → FontParts → List ℕ → Result (List ℕ) FontFault
source_onto text parts coded = plain_onto text parts coded (decrypted_private (coded_bytes coded))

-- word: the same, of an encrypted part in binary whose file has segments
abbrev pub binary_onto : List ℕ → List ℕ → List ℕ → Result (List ℕ) FontFault
binary_onto text tail plain =
    font_reported_at Nowhere (leading_bytes (lines plain)) >>= λ lead.
    private_onto (reading_operator (lines plain)) lead text false plain >>= λ private.
    single_sections (drop (length text) private.0) >>= λ single.
    stands (reading_operator (lines plain)) lead plain >>= λ kept.
    Ok (private.0 ++ joined (tail_of (lines tail)))

-- word: the lines of a private text, after a text, and how many of its bytes hold them
abbrev pub counted_onto : List ℕ → List ℕ → Result (List ℕ × ℕ) FontFault
counted_onto text plain =
    font_reported_at Nowhere (leading_bytes (lines plain)) >>= λ lead.
    private_onto (reading_operator (lines plain)) lead text false plain >>= λ private.
    single_sections (drop (length text) private.0) >>= λ single.
    stands (reading_operator (lines plain)) lead plain >>= λ kept.
    Ok (private.0, length plain - length private.1)

-- word: these, and the lines of the tail, of an encrypted part in binary whose file has no segments
abbrev pub flat_onto : List ℕ → List ℕ → Result (List ℕ) FontFault
flat_onto text coded = counted_onto text (decrypted_private coded) >>= λ found. Ok (found.0 ++ joined (tail_of (lines (drop (4 + found.1) coded))))

-- word: the lines of a private text, and how many of its bytes hold them
abbrev pub counted_private : List ℕ → Result (List ℕ × ℕ) FontFault
counted_private plain =
    font_reported_at Nowhere (leading_bytes (lines plain)) >>= λ lead.
    private_onto (reading_operator (lines plain)) lead [] false plain >>= λ private.
    single_sections private.0 >>= λ single.
    stands (reading_operator (lines plain)) lead plain >>= λ kept.
    Ok (private.0, length plain - length private.1)

-- word: these, and the lines of the tail
abbrev pub segmented_source : List ℕ → List ℕ → Result (List ℕ) FontFault
segmented_source tail plain = counted_private plain >>= λ found. Ok (found.0 ++ joined (tail_of (lines tail)))

-- word: the same, of an encrypted part in binary whose file has no segments
abbrev pub flat_source : List ℕ → Result (List ℕ) FontFault
flat_source coded = counted_private (decrypted_private coded) >>= λ found. Ok (found.0 ++ joined (tail_of (lines (drop (4 + found.1) coded))))
