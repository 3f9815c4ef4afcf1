-- The lenIV of a source after an edit of it.
use Rattle.std.proofs.Common.{◌≡◌, ℕ, pos, nat_le, Result, Ok, Err, List, refl, sym, ◌∙◌, ap, inl, inr}
use Rattle.std.specs.List.{position}
use Rattle.std.proofs.lemmas.Bool.{cases_Bool}
use Rattle.t1_parts.specs.declared.item.Item.{Item}
use Rattle.t1_parts.specs.SourceParts.{SourceParts}
use Rattle.t1_parts.specs.Counts.{subrs_needed, glyphs_needed}
use Rattle.t1_parts.specs.LenIV.{first_lead, lead_among, lead}
use Rattle.t1_source.specs.declared.edit.Edit.TheVariants.{LenIv}
use Rattle.t1_source.specs.declared.edit.Rule.{Rule}
use Rattle.t1_source.specs.declared.edit.Rule.TheVariants.{E4}
use Rattle.t1_pairs.specs.declared.pairs.Pair.{Pair}
use Rattle.t1_source.specs.Editing.{number_up_to, with_items, lead_edited, edited}
use Rattle.t1_source.specs.Leads.{says_lead, items_with_lead}
use Rattle.t1_source.specs.WellFormed.{IsWellFormed}
use Rattle.t1_frac.proofs.OutcomeLaws.{bind_ok}
use Rattle.t1_source.proofs.WellFormedSourceLaws.{raised_said}
use Rattle.t1_source.proofs.WellFormedEditedLaws.{source_given}
use Rattle.t1_source.proofs.LeadEditLaws.{lead_placed, lead_small}

lead_same : (n m : ℕ) → number_up_to 64 (pos n) ≡ Ok m → m ≡ n
lead_same n m e =
    elim (cases_Bool (nat_le n 64)) [
      | inl small ↦
          let here : ◌≡◌ {A = Result ℕ Rule} (Ok n) (Ok m) = rw small at e in
          let same : n ≡ m = cc in
          sym same
      | inr large ↦ let none : ◌≡◌ {A = Result ℕ Rule} (Err E4) (Ok m) = rw large at e in cc
    ]

-- it is the lenIV of the source that it makes
made_lead : (s : SourceParts) (items others : List Item) (n : ℕ) (made : SourceParts) → items ≡ others → lead_among others ≡ n → ◌≡◌ {A = Result SourceParts Rule} (Ok (with_items s items)) (Ok made) → lead made ≡ n
made_lead s items others n made same said e =
    let is : with_items s items ≡ made = cc in
    ap lead (sym is) ∙ ap first_lead (raised_said (subrs_needed items) (glyphs_needed items) items) ∙ ap lead_among same ∙ said

pub edited_lead : (s : SourceParts) (k : List Pair) (n : ℕ) (made : SourceParts) (ps : List Pair) → IsWellFormed s → edited s k (LenIv (pos n)) ≡ Ok (made, ps) → lead made ≡ n
unfolding edited lead_edited items_with_lead
edited_lead s k n made ps kept e =
    let step = bind_ok (number_up_to 64 (pos n)) (λ m. Ok (with_items s (items_with_lead m s.items))) made (source_given k ps (lead_edited s (pos n)) made e) in
    let m = step.0 in
    let r = lead_placed s.items m (position says_lead s.items) kept.items (lead_small (pos n) m step.1) refl in
    made_lead s (items_with_lead m s.items) r.is m made r.same r.lead step.2 ∙ lead_same n m step.1
