-- Numbers that are kept in a set.
use Rattle.std.proofs.Common.{◌≡◌, ℕ, ◌||◌, List, [], ◌∷◌, nat_eq, sym, ◌∙◌, ap, refl, inl, inr, eqb-true}
use Rattle.std.specs.List.{list_any}
use Rattle.std.proofs.Math.Bool.{or-false}
use Rattle.std.proofs.lemmas.Bool.{cases_Bool}
use Rattle.std.proofs.lemmas.List.Folds.{list_any-append}
use Rattle.indexmap.specs.IndexSet.{insert_key as put_in}
use Rattle.t1_run.specs.RunKeys.{has_number}

-- a number that is put in is among the numbers
pub number_put : (n k : ℕ) (ks : List ℕ) → has_number (put_in nat_eq ks k) n ≡ (has_number ks n || nat_eq n k)
number_put n k ks =
    elim (cases_Bool (list_any (nat_eq k) ks)) [
      | inl there ↦
          rw there
          (elim (cases_Bool (nat_eq n k)) [
            | inl same ↦ rw (same, eqb-true n k same, there) refl
            | inr other ↦ rw other (sym (or-false (list_any (nat_eq n) ks)))
          ])
      | inr absent ↦
          rw absent (
          list_any-append (nat_eq n) ks (k ∷ [])
          ∙ ap (λ b. list_any (nat_eq n) ks || b) (or-false (nat_eq n k)))
    ]
