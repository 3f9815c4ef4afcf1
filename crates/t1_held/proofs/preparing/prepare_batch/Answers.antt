use Rattle.std.proofs.Common.{◌≡◌, ◌∙◌, ap, eq-eqb, refl, false, map, not}
use Rattle.std.proofs.lemmas.Result.{err_from_is_err_and}
use Rattle.t1_parts.specs.LenIV.{lead}
use Rattle.t1_source.specs.EditedSource.{may_set_lead}
use Rattle.t1_font.specs.Assembly.{file_check}
use Rattle.t1_cache.specs.Edited.{stale}
use Rattle.t1_rerun.proofs.Judged.{file-refused}
use Rattle.t1_held.specs.Batch.{entry_edit, keys}
use Rattle.t1_held.specs.declared.held.ReadyHeld.{ReadyHeld}
use Rattle.t1_held.specs.Ready.{EncryptsAt}
use Rattle.t1_held.proofs.CommitLaws.{mapped_ok}
use Rattle.t1_held.proofs.HeldLaws.{batch_right, counts_none}
use Rattle.t1_held.proofs.preparing.prepare_batch.Goals as goal

pub returns-in_err-changes-clause-checked : goal.returns-in_err-changes-clause-checked
returns-in_err-changes-clause-checked c =
    let p = err_from_is_err_and c.from_residual.result c.from_residual.ensures.1 in
    rw (p.1, p.2) (file-refused c.args.made.now c.in_err-changes.field-0.0 (c.in_err-changes.ensures c.args.held.now c.requires.held c.requires.edited))

pub returns-in_err-changes-clause-counted : goal.returns-in_err-changes-clause-counted
returns-in_err-changes-clause-counted c =
    let made = c.args.made.now in
    let p = err_from_is_err_and c.from_residual.result c.from_residual.ensures.1 in
    let r = c.in_err-changes.field-0.0 in
    counts_none (stale c.args.source.now (keys (map entry_edit c.args.edits.entries.items)) made) (file_check made) c.args.meter.now c.from_residual.result r (rw (p.1, p.2) refl)
    (c.in_err-changes.ensures c.args.held.now c.requires.held c.requires.edited)

pub prepare_edits-requires : goal.prepare_edits-requires
prepare_edits-requires c =
    let right = batch_right c.args.source.now c.args.made.now (map entry_edit c.args.edits.entries.items) c.args.held.now c.requires.held c.requires.edited
    (record { source = c.args.source; made = c.alone-made.result; changes = c.in_ok-changes.changes; beside = c.len_of_count-beside.result }) refl c.alone-made.ensures
    (c.in_ok-changes.ensures c.args.held.now c.requires.held c.requires.edited) c.source_is_well_formed.ensures
    (c.len_of_count-beside.ensures c.args.source.now c.args.made.now c.requires.beside) in
    (keys (map entry_edit c.args.edits.entries.items), (c.args.made.now, right))

pub returns-clause-checked : goal.returns-clause-checked
returns-clause-checked c =
    let right = batch_right c.args.source.now c.args.made.now (map entry_edit c.args.edits.entries.items) c.args.held.now c.requires.held c.requires.edited
    (record { source = c.args.source; made = c.alone-made.result; changes = c.in_ok-changes.changes; beside = c.len_of_count-beside.result }) refl c.alone-made.ensures
    (c.in_ok-changes.ensures c.args.held.now c.requires.held c.requires.edited) c.source_is_well_formed.ensures
    (c.len_of_count-beside.ensures c.args.source.now c.args.made.now c.requires.beside) in
    c.prepare_edits.ensures.checked (keys (map entry_edit c.args.edits.entries.items)) c.args.made.now right

pub returns-clause-ready : goal.returns-clause-ready
returns-clause-ready c =
    let right = batch_right c.args.source.now c.args.made.now (map entry_edit c.args.edits.entries.items) c.args.held.now c.requires.held c.requires.edited
    (record { source = c.args.source; made = c.alone-made.result; changes = c.in_ok-changes.changes; beside = c.len_of_count-beside.result }) refl c.alone-made.ensures
    (c.in_ok-changes.ensures c.args.held.now c.requires.held c.requires.edited) c.source_is_well_formed.ensures
    (c.len_of_count-beside.ensures c.args.source.now c.args.made.now c.requires.beside) in
    c.prepare_edits.ensures.ready (keys (map entry_edit c.args.edits.entries.items)) c.args.made.now right

pub returns-clause-counted : goal.returns-clause-counted
returns-clause-counted c =
    let right = batch_right c.args.source.now c.args.made.now (map entry_edit c.args.edits.entries.items) c.args.held.now c.requires.held c.requires.edited
    (record { source = c.args.source; made = c.alone-made.result; changes = c.in_ok-changes.changes; beside = c.len_of_count-beside.result }) refl c.alone-made.ensures
    (c.in_ok-changes.ensures c.args.held.now c.requires.held c.requires.edited) c.source_is_well_formed.ensures
    (c.len_of_count-beside.ensures c.args.source.now c.args.made.now c.requires.beside) in
    c.prepare_edits.ensures.counted (keys (map entry_edit c.args.edits.entries.items)) c.args.made.now right

pub returns-clause-encrypted : goal.returns-clause-encrypted
returns-clause-encrypted c =
    let s = c.args.source.now in
    let m = c.args.made.now in
    let ks = keys (map entry_edit c.args.edits.entries.items) in
    let made = c.alone-made in
    let right = batch_right c.args.source.now c.args.made.now (map entry_edit c.args.edits.entries.items) c.args.held.now c.requires.held c.requires.edited
    (record { source = c.args.source; made = c.alone-made.result; changes = c.in_ok-changes.changes; beside = c.len_of_count-beside.result }) refl c.alone-made.ensures
    (c.in_ok-changes.ensures c.args.held.now c.requires.held c.requires.edited) c.source_is_well_formed.ensures
    (c.len_of_count-beside.ensures c.args.source.now c.args.made.now c.requires.beside) in
    mapped_ok (λ (ready : ReadyHeld). may_set_lead s made.result ≡ false → EncryptsAt ks ready.lines.charstrings)
    (λ (ready : ReadyHeld). lead m ≡ lead s → EncryptsAt ks ready.lines.charstrings) c.prepare_edits.result
    (λ ready encrypts same. encrypts (ap (may_set_lead s) made.ensures ∙ ap not (eq-eqb (lead m) (lead s) same)))
    (c.prepare_edits.ensures.encrypted ks m right)
