-- The clear text of a file, in front of what stands behind it.
use Rattle.std.proofs.Common.{◌≡◌, ℕ, ◌-◌, ◌≤◌, List, ◌++◌, take, drop, length, Option, None, Some, Result, Ok, Err, ap, ◌∙◌, arith}
use Rattle.std.proofs.lemmas.List.{length-drop}
use Rattle.t1_frac.specs.Outcome.{◌>>=◌}
use Rattle.t1_text.specs.Lines.{lines, joined, before_rest}
use Rattle.t1_disassemble.specs.declared.fault.FontCode.TheVariants.{D1}
use Rattle.t1_disassemble.specs.declared.fault.FontFault.{FontFault}
use Rattle.t1_disassemble.specs.declared.fault.FontPlace.TheVariants.{Nowhere}
use Rattle.t1_disassemble.specs.ClearPart.{len_before, clear_len}
use Rattle.t1_disassemble.specs.Disassembly.{coded_source, source_of}
use Rattle.t1_disassemble.specs.Front.{after_eexec, past_spaces}
use Rattle.t1_disassemble.specs.Kinds.{plain_kind}
use Rattle.t1_disassemble.specs.Outcome.{font_fault_at}
use Rattle.t1_disassemble.specs.SegmentsRead.{FontParts}
use Rattle.t1_disassemble.specs.SourceOnto.{source_onto}
use Rattle.t1_disassemble.proofs.WholeLaws.{kind_again}

-- what a clear text of another kind says
same_fault : (other fault : FontFault) → ◌≡◌ {A = Result ℕ FontFault} (Err other) (Err fault) → other ≡ fault
same_fault other fault e = cc

other_kind : {X : Type 0} (kind : Result (List ℕ) FontFault) (fault : FontFault) (len : ℕ) (f : List ℕ → Result X FontFault) → (kind >>= λ c. Ok len) ≡ Err fault → (kind >>= f) ≡ Err fault
other_kind (Ok c) fault len f h = absurd (cc)
other_kind (Err other) fault len f h = ap (λ (e : FontFault). Err e) (same_fault other fault h)

fails : (parts : FontParts) (found : Option (List ℕ)) (fault : FontFault) → len_before parts.clear found ≡ Err fault → source_of parts found ≡ Err fault
fails parts None fault h = none (plain_kind parts.clear) h where
  none : (kind : Result (List ℕ) FontFault) → ◌≡◌ {A = Result ℕ FontFault} (kind >>= λ c. Err (font_fault_at Nowhere D1)) (Err fault) → ◌≡◌ {A = Result (List ℕ) FontFault} (kind >>= λ c. Err (font_fault_at Nowhere D1)) (Err fault)
  none (Ok c) e = ap (λ (f : FontFault). Err f) (same_fault (font_fault_at Nowhere D1) fault e)
  none (Err other) e = ap (λ (f : FontFault). Err f) (same_fault other fault e)
fails parts (Some after) fault h =
    other_kind (plain_kind (before_rest parts.clear after)) fault (length parts.clear - length after) (λ c. coded_source parts (past_spaces (after ++ parts.coded)) >>= λ others. Ok (joined (lines c) ++ others)) h

pub clear_fails : (clear coded tail : List ℕ) (fault : FontFault) → clear_len clear ≡ Err fault → source_of (record { clear = clear; coded = coded; tail = tail }) (after_eexec clear) ≡ Err fault
clear_fails clear coded tail fault h = fails (record { clear = clear; coded = coded; tail = tail }) (after_eexec clear) fault h

-- what stands behind the clear text
pub behind_clear : (clear coded tail : List ℕ) (len : ℕ) → len ≤ length clear → after_eexec clear ≡ Some (drop len clear) → plain_kind (take len clear) ≡ Ok (take len clear)
    → source_of (record { clear = clear; coded = coded; tail = tail }) (after_eexec clear)
    ≡ source_onto (joined (lines (take len clear))) (record { clear = clear; coded = coded; tail = tail }) (past_spaces (drop len clear ++ coded))
behind_clear clear coded tail len within found kind =
    let parts : FontParts = record { clear = clear; coded = coded; tail = tail } in
    let cut : length clear - length (drop len clear) ≡ len = omega (arith, length-drop len clear, within) in
    ap (source_of parts) found ∙ kind_again parts (drop len clear) (take len clear) (ap (λ (n : ℕ). take n clear) cut) kind
