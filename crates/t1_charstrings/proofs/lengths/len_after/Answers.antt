use Rattle.std.proofs.Common.{◌≡◌, false, subst, sym}
use Rattle.std.proofs.lemmas.Bool.{not-false}
use Rattle.t1_parts.specs.LenIV.{lead}
use Rattle.t1_source.specs.Changes.{is_entry_changed, IsFor}
use Rattle.t1_source.specs.EditedSource.{made_of, may_set_lead, EditedParts}
use Rattle.t1_charstrings.specs.Batch.{AreEdits}
use Rattle.t1_charstrings.proofs.MadeItems.{is_changed, lead_changed, prepared_for}
use Rattle.t1_charstrings.proofs.lengths.len_after.Goals as goal

pub len_changed-requires-clause-prepared : goal.len_changed-requires-clause-prepared
len_changed-requires-clause-prepared c =
    (prepared_for c.args.made.now c.in-Some.change.now c.args.source.now c.args.private_len c.args.beside c.requires.prepared (sym c.in-Some.ensures.value)).1

pub returns-in-Some-clause-lead : goal.returns-in-Some-clause-lead
returns-in-Some-clause-lead c =
    let change = c.in-Some.change.now in
    let s = c.args.source.now in
    let kept = c.args.charstrings.now in
    let is = is_changed c.args.made.now change s c.args.private_len c.args.beside c.requires.prepared (sym c.in-Some.ensures.value) in
    let fits = subst (λ (e : EditedParts). IsFor change e.source) is c.in-Some.ensures.fits in
    let edits = subst (λ (e : EditedParts). AreEdits s (made_of e) kept c.args.entries.now) is c.requires.edits in
    let entry = not-false (is_entry_changed change s) (subst (λ (e : EditedParts). may_set_lead s e ≡ false) is c.requires.lead) in
    subst (λ (e : EditedParts). lead (made_of e) ≡ lead s) (sym is) (lead_changed change s kept fits edits.edit entry)
