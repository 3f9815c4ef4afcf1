-- The line of a number.
use Rattle.std.proofs.Common.{◌≡◌, ◌∙◌, ℕ, suc, ◌+◌, ◌-◌, ◌≤◌, List, [], ◌∷◌, length, sym, ap, arith}
use Rattle.std.specs.List.{slice_index_or}
use Rattle.std.proofs.lemmas.List.{nil_from_length}
use Rattle.t1_text.specs.Lines.{lines}

-- a line of the rest is one of all lines, so many lines on
abbrev pub Leads : ℕ → List ℕ → List ℕ → Type 0
Leads n rest bytes = (k j : ℕ) → k + n ≡ j → slice_index_or (lines rest) k [] ≡ slice_index_or (lines bytes) j []

pub leads_first : (bytes : List ℕ) → Leads 0 bytes bytes
leads_first bytes k j e = let same : k ≡ j = omega (arith, e) in ap (λ i. slice_index_or (lines bytes) i []) same

next_line : (l : List ℕ) (ls : List (List ℕ)) (k : ℕ) → slice_index_or (l ∷ ls) (k + 1) [] ≡ slice_index_or ls k []
next_line l ls k = let same : k + 1 ≡ suc k = omega arith in ap (λ i. slice_index_or (l ∷ ls) i []) same

pub leads_on : (n : ℕ) (rest bytes line after : List ℕ) → Leads n rest bytes → lines rest ≡ line ∷ lines after → Leads (n + 1) after bytes
leads_on n rest bytes line after h is k j e =
    sym (ap (λ ls. slice_index_or ls (k + 1) []) is ∙ next_line line (lines after) k) ∙ h (k + 1) j (omega (arith, e))

-- past the last line there is an empty one
pub leads_past : (n m : ℕ) (rest bytes : List ℕ) → Leads n rest bytes → n ≤ m → length rest ≡ 0 → rest ≡ slice_index_or (lines bytes) m []
leads_past n m rest bytes h within none =
    let empty = nil_from_length rest none in
    empty ∙ sym (ap (λ r. slice_index_or (lines r) (m - n) []) empty) ∙ h (m - n) m (omega (arith, within))

pub leads_there : (m : ℕ) (rest bytes line after : List ℕ) → Leads m rest bytes → lines rest ≡ line ∷ lines after → line ≡ slice_index_or (lines bytes) m []
leads_there m rest bytes line after h is = sym (ap (λ ls. slice_index_or ls 0 []) is) ∙ h 0 m (omega arith)
