-- The first item that says lenIV decides.
use Rattle.std.proofs.Common.{◌≡◌, ℕ, Option, Some, None, Ok, Err, ok_or, List, [], ◌∷◌, filter_map, refl, sym, ◌∙◌, ap}
use Rattle.std.specs.List.{find}
use Rattle.std.specs.Option.{option_and_then, unwrap_or}
use Rattle.t1_frac.specs.declared.fault.Code.TheVariants.{F11}
use Rattle.t1_frac.specs.declared.fault.Place.TheVariants.{Line}
use Rattle.t1_frac.specs.Outcome.{fault_at}
use Rattle.t1_parts.specs.declared.item.Item.{Item}
use Rattle.t1_parts.specs.Entries.{NumberedItem}
use Rattle.t1_parts.specs.LenIV.{said_lead, says_lead, lead_of_token, said_with_line, lead_check, lead_among}

pub said_nowhere : (items : List Item) → find says_lead items ≡ None → lead_among items ≡ 4
said_nowhere [] e = refl
said_nowhere (j ∷ items) e = by (said_lead j) refl e (said_nowhere items) where
  by : (o : Option (Option (List ℕ))) → said_lead j ≡ o → find says_lead (j ∷ items) ≡ None → (find says_lead items ≡ None → lead_among items ≡ 4) → lead_among (j ∷ items) ≡ 4
  by None is h more = let rest : find says_lead items ≡ None = rw is at h in rw is (more rest)
  by (Some t) is h more = let here : Some j ≡ None = rw is at h in absurd (cc)

pub said_there : (items : List Item) (i : Item) → find says_lead items ≡ Some i → lead_among items ≡ unwrap_or (option_and_then lead_of_token (said_lead i)) 4
said_there [] i e = cc
said_there (j ∷ items) i e = by (said_lead j) refl e (said_there items i) where
  Says : List Item → Type 0
  Says is = lead_among is ≡ unwrap_or (option_and_then lead_of_token (said_lead i)) 4

  by : (o : Option (Option (List ℕ))) → said_lead j ≡ o → find says_lead (j ∷ items) ≡ Some i → (find says_lead items ≡ Some i → Says items) → Says (j ∷ items)
  by None is h more = let rest : find says_lead items ≡ Some i = rw is at h in rw is (more rest)
  by (Some t) is h more =
      let first : Some j ≡ Some i = rw is at h in
      let same : j ≡ i = cc in
      rw is (ap (λ o. unwrap_or (option_and_then lead_of_token o) 4) (sym is ∙ ap said_lead same))

pub checked_nowhere : (items : List NumberedItem) → find (λ i. says_lead i.1) items ≡ None → lead_check (filter_map said_with_line items) ≡ Ok 4
checked_nowhere [] e = refl
checked_nowhere (j ∷ items) e = by (said_lead j.1) refl e (checked_nowhere items) where
  by : (o : Option (Option (List ℕ))) → said_lead j.1 ≡ o → find (λ i. says_lead i.1) (j ∷ items) ≡ None
      → (find (λ i. says_lead i.1) items ≡ None → lead_check (filter_map said_with_line items) ≡ Ok 4) → lead_check (filter_map said_with_line (j ∷ items)) ≡ Ok 4
  by None is h more = let rest : find (λ i. says_lead i.1) items ≡ None = rw is at h in rw is (more rest)
  by (Some t) is h more = let here : Some j ≡ None = rw is at h in absurd (cc)

checked_there : (items : List NumberedItem) (i : NumberedItem) → find (λ i. says_lead i.1) items ≡ Some i
    → lead_check (filter_map said_with_line items) ≡ ok_or (option_and_then lead_of_token (said_lead i.1)) (fault_at (Line i.0) F11)
checked_there [] i e = cc
checked_there (j ∷ items) i e = by (said_lead j.1) refl e (checked_there items i) where
  Checks : List NumberedItem → Type 0
  Checks is = lead_check (filter_map said_with_line is) ≡ ok_or (option_and_then lead_of_token (said_lead i.1)) (fault_at (Line i.0) F11)

  by : (o : Option (Option (List ℕ))) → said_lead j.1 ≡ o → find (λ i. says_lead i.1) (j ∷ items) ≡ Some i → (find (λ i. says_lead i.1) items ≡ Some i → Checks items) → Checks (j ∷ items)
  by None is h more = let rest : find (λ i. says_lead i.1) items ≡ Some i = rw is at h in rw is (more rest)
  by (Some t) is h more =
      let first : Some j ≡ Some i = rw is at h in
      let same : ◌≡◌ {A = NumberedItem} j i = cc in
      rw is (ap (λ o. ok_or (option_and_then lead_of_token o) (fault_at (Line j.0) F11)) (sym is) ∙ ap (λ k. ok_or (option_and_then lead_of_token (said_lead k.1)) (fault_at (Line k.0) F11)) same)

pub checked_well : (items : List NumberedItem) (i : NumberedItem) (n : ℕ) → find (λ i. says_lead i.1) items ≡ Some i → option_and_then lead_of_token (said_lead i.1) ≡ Some n → lead_check (filter_map said_with_line items) ≡ Ok n
checked_well items i n e well = checked_there items i e ∙ ap (λ o. ok_or o (fault_at (Line i.0) F11)) well

pub checked_ill : (items : List NumberedItem) (i : NumberedItem) → find (λ i. says_lead i.1) items ≡ Some i → option_and_then lead_of_token (said_lead i.1) ≡ None
    → lead_check (filter_map said_with_line items) ≡ Err (fault_at (Line i.0) F11)
checked_ill items i e ill = checked_there items i e ∙ ap (λ o. ok_or o (fault_at (Line i.0) F11)) ill
