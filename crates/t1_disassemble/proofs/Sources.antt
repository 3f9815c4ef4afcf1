-- The source of an encrypted part after other lines is that source alone, behind them.
use Rattle.std.proofs.Common.{◌≡◌, ℕ, false, ◌+◌, ◌-◌, List, ◌++◌, drop, length, Result, Ok, Err, refl, ap, ◌∙◌, append_assoc}
use Rattle.std.proofs.lemmas.List.{drop_at}
use Rattle.t1_frac.specs.Outcome.{◌>>=◌}
use Rattle.t1_text.specs.Lines.{lines, joined}
use Rattle.t1_parts.specs.Parts.{tail_of}
use Rattle.t1_disassemble.specs.declared.fault.FontCode.{FontCode}
use Rattle.t1_disassemble.specs.declared.fault.FontFault.{FontFault}
use Rattle.t1_disassemble.specs.declared.fault.FontPlace.TheVariants.{Nowhere}
use Rattle.t1_disassemble.specs.CutDigits.{with_digits}
use Rattle.t1_disassemble.specs.Decipher.{decrypted_private}
use Rattle.t1_disassemble.specs.Disassembly.{coded_bytes, coded_place, tail_after, private_source, coded_source}
use Rattle.t1_disassemble.specs.Kinds.{single_sections}
use Rattle.t1_disassemble.specs.Outcome.{font_reported_at}
use Rattle.t1_disassemble.specs.PiecesOnto.{text_onto, private_onto}
use Rattle.t1_disassemble.specs.PrivateText.{read_private_text}
use Rattle.t1_disassemble.specs.SegmentsRead.{FontParts}
use Rattle.t1_disassemble.specs.Settings.{reading_operator, leading_bytes}
use Rattle.t1_disassemble.specs.SourceOnto.{plain_onto, source_onto}
use Rattle.t1_disassemble.specs.Standing.{stands}

-- the lines of a whole private text, after others
pub text_same : (operator : List ℕ) (lead : ℕ) (text plain : List ℕ) → private_onto operator lead text false plain ≡ text_onto text (read_private_text operator lead plain)
unfolding private_onto read_private_text
text_same operator lead text plain = refl

-- the tail that stands behind what was read
abbrev tail_lines : FontParts → List ℕ → List ℕ → List ℕ → List ℕ
tail_lines parts coded plain rest = joined (tail_of (lines (tail_after parts coded (4 + (length plain - length rest)))))

-- whether all of its entries come into the source
abbrev pub all_stand : ℕ → List ℕ → Result (Unit {0}) FontFault
all_stand lead plain = stands (reading_operator (lines plain)) lead plain

-- what is made of the private text, where it has one section of a kind, and none of its entries would be lost
abbrev ended : ℕ → FontParts → List ℕ → List ℕ → List ℕ × List ℕ → Result (List ℕ) FontFault
ended lead parts coded plain private = single_sections private.0 >>= λ single. all_stand lead plain >>= λ kept. Ok (private.0 ++ tail_lines parts coded plain private.1)

-- the same after a text
abbrev ended_onto : ℕ → List ℕ → FontParts → List ℕ → List ℕ → List ℕ × List ℕ → Result (List ℕ) FontFault
ended_onto lead text parts coded plain private =
    single_sections (drop (length text) private.0) >>= λ single. all_stand lead plain >>= λ kept. Ok (private.0 ++ tail_lines parts coded plain private.1)

judged_same : (text made tail : List ℕ) (single : Result (List ℕ) FontFault) (kept : Result (Unit {0}) FontFault)
    → (single >>= λ one. kept >>= λ all. Ok ((text ++ made) ++ tail)) ≡ ((single >>= λ one. kept >>= λ all. Ok (made ++ tail)) >>= λ more. Ok (text ++ more))
judged_same text made tail (Ok one) (Ok all) = ap (λ (t : List ℕ). Ok t) (append_assoc text made tail)
judged_same text made tail (Ok one) (Err fault) = refl
judged_same text made tail (Err fault) kept = refl

digits_same : (lead place : ℕ) (text : List ℕ) (parts : FontParts) (coded plain : List ℕ) (read : Result (List ℕ × List ℕ) FontFault)
    → (with_digits place coded (text_onto text read) >>= ended_onto lead text parts coded plain) ≡ ((with_digits place coded read >>= ended lead parts coded plain) >>= λ more. Ok (text ++ more))
digits_same lead place text parts coded plain (Ok found) =
    let tail = tail_lines parts coded plain found.1 in
    ap (λ (l : List ℕ). single_sections l >>= λ single. all_stand lead plain >>= λ kept. Ok ((text ++ found.0) ++ tail)) (drop_at text found.0 (length text) refl)
    ∙ judged_same text found.0 tail (single_sections found.0) (all_stand lead plain)
digits_same lead place text parts coded plain (Err fault) = refl

lead_same : (text : List ℕ) (parts : FontParts) (coded plain operator : List ℕ) (lead : Result ℕ FontCode)
    → (font_reported_at Nowhere lead >>= λ n. with_digits (coded_place parts coded) coded (private_onto operator n text false plain) >>= ended_onto n text parts coded plain)
    ≡ ((font_reported_at Nowhere lead >>= λ n. with_digits (coded_place parts coded) coded (read_private_text operator n plain) >>= ended n parts coded plain) >>= λ more. Ok (text ++ more))
lead_same text parts coded plain operator (Ok n) =
    ap (λ (r : Result (List ℕ × List ℕ) FontFault). with_digits (coded_place parts coded) coded r >>= ended_onto n text parts coded plain) (text_same operator n text plain)
    ∙ digits_same n (coded_place parts coded) text parts coded plain (read_private_text operator n plain)
lead_same text parts coded plain operator (Err code) = refl

plain_same : (text : List ℕ) (parts : FontParts) (coded plain : List ℕ) → plain_onto text parts coded plain ≡ (private_source parts coded plain >>= λ more. Ok (text ++ more))
plain_same text parts coded plain = lead_same text parts coded plain (reading_operator (lines plain)) (leading_bytes (lines plain))

pub source_same : (text : List ℕ) (parts : FontParts) (coded : List ℕ) → source_onto text parts coded ≡ (coded_source parts coded >>= λ more. Ok (text ++ more))
source_same text parts coded = plain_same text parts coded (decrypted_private (coded_bytes coded))
