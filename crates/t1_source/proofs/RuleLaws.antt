-- What is true where no rule is broken.
use Rattle.std.proofs.Common.{◌≡◌, ℕ, ℤ, Bool, true, false, List, Ok, refl, sym, ◌∙◌, ap, inl, inr}
use Rattle.std.proofs.lemmas.Bool.{and_from, cases_Bool}
use Rattle.t1_pairs.specs.Kerning.{is_kerning_value, is_kerning_pair}
use Rattle.t1_source.specs.declared.edit.Rule.{Rule}
use Rattle.t1_text.specs.Names.{is_name}
use Rattle.t1_source.specs.Editing.{keeps, good_name, kerning_number}

pub kept_ok : (rule : Rule) (b : Bool) → keeps rule b ≡ Ok tt → b ≡ true
kept_ok rule true e = refl
kept_ok rule false e = cc

number_ok : (v w : ℤ) → kerning_number v ≡ Ok w → is_kerning_value w ≡ true
number_ok v w e =
    elim (cases_Bool (is_kerning_value v)) [
      | inl small ↦ let same : v ≡ w = (let is : Ok v ≡ Ok w = rw small at e in cc) in ap is_kerning_value (sym same) ∙ small
      | inr large ↦ let none = rw large at e in cc
    ]

-- a pair of good names and a good value
pub named_pair : (left right : List ℕ) (v w : ℤ) → good_name left ≡ Ok tt → good_name right ≡ Ok tt → kerning_number v ≡ Ok w → is_kerning_pair (record { left = left; right = right; value = w }) ≡ true
named_pair left right v w a b e = and_from _ _ (and_from _ _ (kept_ok _ (is_name left) a) (kept_ok _ (is_name right) b)) (number_ok v w e)
