-- A source that is edited is kept.
use Rattle.std.proofs.Common.{◌≡◌, ℕ, ℤ, true, Result, Ok, ok_or, List, sym, ap, ◌∙◌}
use Rattle.std.specs.List.{position, remove}
use Rattle.t1_frac.specs.Outcome.{◌>>=◌}
use Rattle.t1_source.specs.declared.edit.Edit.{Edit}
use Rattle.t1_source.specs.declared.edit.Edit.TheVariants.{ReplaceGlyph, AddGlyph, RemoveGlyph, ReplaceSubr, AddSubr, RemoveSubr, Encode, Unencode, LenIv, Kern, Unkern}
use Rattle.t1_source.specs.declared.edit.Rule.{Rule}
use Rattle.t1_source.specs.declared.edit.Rule.TheVariants.{E10}
use Rattle.t1_pairs.specs.declared.pairs.Pair.{Pair}
use Rattle.t1_parts.specs.SourceParts.{SourceParts}
use Rattle.t1_source.specs.Editing.{beside_pairs, beside_source, edited, replaced_glyph, added_glyph, removed_glyph, replaced_subr, added_subr, removed_subr, encoded, unencoded, lead_edited, kerned, unkerned, good_name, kerning_number}
use Rattle.t1_pairs.specs.Kerning.{is_pair, put_pair, are_pairs}
use Rattle.t1_source.specs.WellFormed.{IsWellFormed}
use Rattle.t1_frac.proofs.OutcomeLaws.{bind_ok}
use Rattle.t1_pairs.proofs.PairsWellFormedLaws.{put_pairs, removed_pairs}
use Rattle.t1_source.proofs.RuleLaws.{named_pair}
use Rattle.t1_source.proofs.WellFormedEntryLaws.{replaced_glyph_well_formed, added_glyph_well_formed, removed_glyph_well_formed, replaced_subr_well_formed, added_subr_well_formed, removed_subr_well_formed}
use Rattle.t1_source.proofs.WellFormedClearLaws.{encoded_well_formed, unencoded_well_formed}
use Rattle.t1_source.proofs.LeadEditLaws.{lead_well_formed}

-- the pairs aside
pub source_given : (k ps : List Pair) (given : Result SourceParts Rule) (made : SourceParts) → beside_pairs k given ≡ Ok (made, ps) → given ≡ Ok made
source_given k ps given made e =
    let step = bind_ok given (λ s. Ok (s, k)) (made, ps) e in
    let whole : ◌≡◌ {A = Result (SourceParts × List Pair) Rule} (Ok (step.0, k)) (Ok (made, ps)) = step.2 in
    let same : ◌≡◌ {A = SourceParts × List Pair} (step.0, k) (made, ps) = cc in
    step.1 ∙ ap (λ t. Ok t.0) same

-- the source stays
pub source_same : (s : SourceParts) (ps : List Pair) (given : Result (List Pair) Rule) (made : SourceParts) → beside_source s given ≡ Ok (made, ps) → s ≡ made
source_same s ps given made e =
    let step = bind_ok given (λ k. Ok (s, k)) (made, ps) e in
    let whole : ◌≡◌ {A = Result (SourceParts × List Pair) Rule} (Ok (s, step.0)) (Ok (made, ps)) = step.2 in
    let same : ◌≡◌ {A = SourceParts × List Pair} (s, step.0) (made, ps) = cc in
    ap (λ t. t.0) same

source_stays : (s : SourceParts) (ps : List Pair) (given : Result (List Pair) Rule) (made : SourceParts) → beside_source s given ≡ Ok (made, ps) → IsWellFormed s → IsWellFormed made
source_stays s ps given made e kept = rw (← source_same s ps given made e) kept

-- what an edit makes of a source that is kept
pub edited_well_formed : (s : SourceParts) (k : List Pair) (edit : Edit) (made : SourceParts) (ps : List Pair) → IsWellFormed s → edited s k edit ≡ Ok (made, ps) → IsWellFormed made
unfolding edited
edited_well_formed s k (ReplaceGlyph g body) made ps kept e = replaced_glyph_well_formed s g body made kept (source_given k ps (replaced_glyph s g body) made e)
edited_well_formed s k (AddGlyph g body) made ps kept e = added_glyph_well_formed s g body made kept (source_given k ps (added_glyph s g body) made e)
edited_well_formed s k (RemoveGlyph g) made ps kept e = removed_glyph_well_formed s g made kept (source_given k ps (removed_glyph s g) made e)
edited_well_formed s k (ReplaceSubr n body) made ps kept e = replaced_subr_well_formed s n body made kept (source_given k ps (replaced_subr s n body) made e)
edited_well_formed s k (AddSubr n body) made ps kept e = added_subr_well_formed s n body made kept (source_given k ps (added_subr s n body) made e)
edited_well_formed s k (RemoveSubr n) made ps kept e = removed_subr_well_formed s n made kept (source_given k ps (removed_subr s n) made e)
edited_well_formed s k (Encode code g) made ps kept e = encoded_well_formed s code g made kept (source_given k ps (encoded s code g) made e)
edited_well_formed s k (Unencode code) made ps kept e = unencoded_well_formed s code made kept (source_given k ps (unencoded s code) made e)
edited_well_formed s k (LenIv n) made ps kept e = lead_well_formed s n made kept (source_given k ps (lead_edited s n) made e)
edited_well_formed s k (Kern left right v) made ps kept e = source_stays s ps (kerned k left right v) made e kept
edited_well_formed s k (Unkern left right) made ps kept e = source_stays s ps (unkerned k left right) made e kept

-- ---- pairs

pairs_same : (k ps : List Pair) (given : Result SourceParts Rule) (made : SourceParts) → beside_pairs k given ≡ Ok (made, ps) → k ≡ ps
pairs_same k ps given made e =
    let step = bind_ok given (λ s. Ok (s, k)) (made, ps) e in
    let whole : ◌≡◌ {A = Result (SourceParts × List Pair) Rule} (Ok (step.0, k)) (Ok (made, ps)) = step.2 in
    let same : ◌≡◌ {A = SourceParts × List Pair} (step.0, k) (made, ps) = cc in
    ap (λ t. t.1) same

pairs_stay : (k ps : List Pair) (given : Result SourceParts Rule) (made : SourceParts) → beside_pairs k given ≡ Ok (made, ps) → are_pairs k ≡ true → are_pairs ps ≡ true
pairs_stay k ps given made e kept = ap are_pairs (sym (pairs_same k ps given made e)) ∙ kept

pairs_given : (s : SourceParts) (ps : List Pair) (given : Result (List Pair) Rule) (made : SourceParts) → beside_source s given ≡ Ok (made, ps) → given ≡ Ok ps
pairs_given s ps given made e =
    let step = bind_ok given (λ k. Ok (s, k)) (made, ps) e in
    let whole : ◌≡◌ {A = Result (SourceParts × List Pair) Rule} (Ok (s, step.0)) (Ok (made, ps)) = step.2 in
    let same : ◌≡◌ {A = SourceParts × List Pair} (s, step.0) (made, ps) = cc in
    step.1 ∙ ap (λ t. Ok t.1) same

kerned_pairs : (k ps : List Pair) (left right : List ℕ) (v : ℤ) → kerned k left right v ≡ Ok ps → are_pairs k ≡ true → are_pairs ps ≡ true
unfolding kerned
kerned_pairs k ps left right v e kept =
    let pair : ℤ → Pair = λ w. record { left = left; right = right; value = w } in
    let first = bind_ok (good_name left) (λ named. good_name right >>= λ also. kerning_number v >>= λ w. Ok (put_pair (pair w) k)) ps e in
    let second = bind_ok (good_name right) (λ also. kerning_number v >>= λ w. Ok (put_pair (pair w) k)) ps first.2 in
    let third = bind_ok (kerning_number v) (λ w. Ok (put_pair (pair w) k)) ps second.2 in
    let whole : ◌≡◌ {A = Result (List Pair) Rule} (Ok (put_pair (pair third.0) k)) (Ok ps) = third.2 in
    let same : put_pair (pair third.0) k ≡ ps = cc in
    ap are_pairs (sym same) ∙ put_pairs (pair third.0) k (named_pair left right v third.0 first.1 second.1 third.1) kept

unkerned_pairs : (k ps : List Pair) (left right : List ℕ) → unkerned k left right ≡ Ok ps → are_pairs k ≡ true → are_pairs ps ≡ true
unfolding unkerned
unkerned_pairs k ps left right e kept =
    let first = bind_ok (good_name left) (λ named. good_name right >>= λ also. ok_or (position (is_pair left right) k) E10 >>= λ at. Ok (remove k at)) ps e in
    let second = bind_ok (good_name right) (λ also. ok_or (position (is_pair left right) k) E10 >>= λ at. Ok (remove k at)) ps first.2 in
    let third = bind_ok (ok_or (position (is_pair left right) k) E10) (λ at. Ok (remove k at)) ps second.2 in
    let whole : ◌≡◌ {A = Result (List Pair) Rule} (Ok (remove k third.0)) (Ok ps) = third.2 in
    let same : remove k third.0 ≡ ps = cc in
    ap are_pairs (sym same) ∙ removed_pairs k third.0 kept

-- what an edit makes of pairs as a kerning file has them
pub edited_pairs : (s : SourceParts) (k : List Pair) (edit : Edit) (made : SourceParts) (ps : List Pair) → are_pairs k ≡ true → edited s k edit ≡ Ok (made, ps) → are_pairs ps ≡ true
unfolding edited
edited_pairs s k (ReplaceGlyph g body) made ps kept e = pairs_stay k ps (replaced_glyph s g body) made e kept
edited_pairs s k (AddGlyph g body) made ps kept e = pairs_stay k ps (added_glyph s g body) made e kept
edited_pairs s k (RemoveGlyph g) made ps kept e = pairs_stay k ps (removed_glyph s g) made e kept
edited_pairs s k (ReplaceSubr n body) made ps kept e = pairs_stay k ps (replaced_subr s n body) made e kept
edited_pairs s k (AddSubr n body) made ps kept e = pairs_stay k ps (added_subr s n body) made e kept
edited_pairs s k (RemoveSubr n) made ps kept e = pairs_stay k ps (removed_subr s n) made e kept
edited_pairs s k (Encode code g) made ps kept e = pairs_stay k ps (encoded s code g) made e kept
edited_pairs s k (Unencode code) made ps kept e = pairs_stay k ps (unencoded s code) made e kept
edited_pairs s k (LenIv n) made ps kept e = pairs_stay k ps (lead_edited s n) made e kept
edited_pairs s k (Kern left right v) made ps kept e = kerned_pairs k ps left right v (pairs_given s ps (kerned k left right v) made e) kept
edited_pairs s k (Unkern left right) made ps kept e = unkerned_pairs k ps left right (pairs_given s ps (unkerned k left right) made e) kept
