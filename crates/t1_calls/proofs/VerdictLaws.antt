-- The verdict on a source and its pairs, and the lines of their faults.
use Rattle.std.proofs.Common.{◌≡◌, ◌∙◌, ℕ, List, [], ◌∷◌, ◌++◌, codes, refl, sym, ap}
use Rattle.std.specs.Prelude.{Result, Ok, Err}
use Rattle.t1_frac.specs.Outcome.{◌>>=◌}
use Rattle.t1_frac.specs.declared.fault.Fault.{Fault}
use Rattle.t1_text.specs.Lines.{lines}
use Rattle.t1_pairs.specs.Kerning.{pairs}
use Rattle.t1_pairs.specs.declared.pairs.Pair.{Pair}
use Rattle.t1_parts.specs.Reading.{reads}
use Rattle.t1_parts.specs.SourceParts.{SourceParts}
use Rattle.t1_font.specs.SourceChecks.{source_check}
use Rattle.t1_faults.specs.Judging.{source_faults}
use Rattle.t1_faults.specs.Reading.{reading_fault}
use Rattle.t1_faults.specs.declared.found.FoundFault.{FoundFault}
use Rattle.t1_faults.proofs.CheckLaws.{found_none, none_found}
use Rattle.t1_fault_texts.specs.Finding.{first_fault, pairs_faults}
use Rattle.t1_fault_texts.specs.Rows.{fault_rows, rows}
use Rattle.t1_session.specs.Files.{metrics_file, verdict}
use Rattle.t1_session.proofs.FaultLaws.{metrics_tell_first}

-- a text with a byte isn't none
some_byte : {A : Type 0} (c : ℕ) (rest : List ℕ) → c ∷ rest ≡ [] → A
some_byte c rest none = absurd (cc)

-- two texts that make none are none
neither : (a b : List ℕ) → a ++ b ≡ [] → (a ≡ []) × (b ≡ [])
neither [] b none = (refl, none)
neither (c ∷ a) b none = some_byte c (a ++ b) none

-- each fault has a line, which begins with a name
no_rows : (c : ℕ) (name : List ℕ) (faults : List FoundFault) → rows (c ∷ name) faults ≡ [] → faults ≡ []
no_rows c name [] none = refl
no_rows c name (fault ∷ faults) none = some_byte c _ none

-- where there are no lines, neither the pairs have a fault nor the source
no_faults : (source kerning : List ℕ) → fault_rows source kerning ≡ [] → (pairs_faults kerning ≡ []) × (source_faults source ≡ [])
unfolding fault_rows
no_faults source kerning none =
    let both = neither (rows (codes "pairs") (pairs_faults kerning)) (rows (codes "source") (source_faults source)) none in
    (no_rows 112 (codes "airs") (pairs_faults kerning) both.0, no_rows 115 (codes "ource") (source_faults source) both.1)

no_lines : (source kerning : List ℕ) → pairs_faults kerning ≡ [] → source_faults source ≡ [] → fault_rows source kerning ≡ []
unfolding fault_rows
no_lines source kerning p s = ap (λ faults. rows (codes "pairs") faults ++ rows (codes "source") (source_faults source)) p ∙ ap (rows (codes "source")) s

-- a source that isn't read has no verdict but its fault, nor have pairs
unread : (source kerning : List ℕ) (fault : Fault) → reads source ≡ Err fault → verdict source kerning ≡ Err fault
unfolding metrics_file
unread source kerning fault e = rw e refl

unpaired : (source kerning : List ℕ) (s : SourceParts) (fault : Fault) → reads source ≡ Ok s → pairs kerning ≡ Err fault → verdict source kerning ≡ Err fault
unfolding metrics_file
unpaired source kerning s fault e f = rw (e, f) refl

-- what passes has no fault
pub none_where_it_passes : (source kerning : List ℕ) → verdict source kerning ≡ Ok tt → fault_rows source kerning ≡ []
none_where_it_passes source kerning passed = by (reads source) refl (pairs kerning) refl where
  by : (r : Result SourceParts Fault) → reads source ≡ r → (p : Result (List Pair) Fault) → pairs kerning ≡ p → fault_rows source kerning ≡ []
  by (Ok s) e (Ok ps) f =
      let judged : source_check s ≡ Ok tt = sym (metrics_tell_first source kerning s ps e f) ∙ passed in
      no_lines source kerning (ap (first_fault (lines kerning)) f) (none_found source (ap (λ r. r >>= source_check) e ∙ judged))
  by (Ok s) e (Err fault) f = let wrong : ◌≡◌ {A = Result (Unit {0}) Fault} (Err fault) (Ok tt) = sym (unpaired source kerning s fault e f) ∙ passed in absurd (cc)
  by (Err fault) e p f = let wrong : ◌≡◌ {A = Result (Unit {0}) Fault} (Err fault) (Ok tt) = sym (unread source kerning fault e) ∙ passed in absurd (cc)

-- what has no fault passes
pub passes_where_none : (source kerning : List ℕ) → fault_rows source kerning ≡ [] → verdict source kerning ≡ Ok tt
passes_where_none source kerning none = by (no_faults source kerning none) (reads source) refl (pairs kerning) refl where
  by : (pairs_faults kerning ≡ []) × (source_faults source ≡ []) → (r : Result SourceParts Fault) → reads source ≡ r → (p : Result (List Pair) Fault) → pairs kerning ≡ p
      → verdict source kerning ≡ Ok tt
  by both (Ok s) e (Ok ps) f =
      let judged : source_check s ≡ Ok tt = ap (λ r. r >>= source_check) (sym e) ∙ found_none source both.1 in
      metrics_tell_first source kerning s ps e f ∙ judged
  by both (Ok s) e (Err fault) f = let wrong : reading_fault (lines kerning) fault ∷ [] ≡ [] = ap (first_fault (lines kerning)) (sym f) ∙ both.0 in absurd (cc)
  by both (Err fault) e p f =
      let wrong : ◌≡◌ {A = Result (Unit {0}) Fault} (Err fault) (Ok tt) = ap (λ r. r >>= source_check) (sym e) ∙ found_none source both.1 in absurd (cc)
