use Rattle.std.proofs.Common.{◌≡◌, ◌∙◌, None, ap, refl, false, true, not}
use Rattle.std.proofs.lemmas.Result.{err_from_is_err_and}
use Rattle.t1_source.specs.Changes.{changed, is_entry_changed}
use Rattle.t1_source.specs.EditedSource.{may_set_lead}
use Rattle.t1_font.specs.Assembly.{file_check}
use Rattle.t1_cache.specs.Edited.{stale}
use Rattle.t1_cache.specs.EditKeys.{named}
use Rattle.t1_rerun.proofs.Judged.{file-refused}
use Rattle.t1_held.specs.declared.held.ReadyHeld.{ReadyHeld}
use Rattle.t1_held.specs.Ready.{EncryptsAt}
use Rattle.t1_held.proofs.CommitLaws.{mapped_ok}
use Rattle.t1_held.proofs.HeldLaws.{counts_none, edit_right}
use Rattle.t1_held.proofs.preparing.prepare_edit.Goals as goal

pub prepared-made-requires : goal.prepared-made-requires
prepared-made-requires c = record { pairs = c.args.pairs.now; serves = c.requires.serves; well = c.requires.well }

pub returns-in_err-changes-clause-checked : goal.returns-in_err-changes-clause-checked
returns-in_err-changes-clause-checked c =
    let s = c.args.source.now in
    let k = c.args.pairs.now in
    let change = c.args.change.now in
    let p = err_from_is_err_and c.from_residual.result c.from_residual.ensures.1 in
    rw (p.1, p.2) (file-refused (changed change s k).0 c.in_err-changes.field-0.0 (c.in_err-changes.ensures s k change c.args.held.now c.requires))

pub returns-in_err-changes-clause-counted : goal.returns-in_err-changes-clause-counted
returns-in_err-changes-clause-counted c =
    let s = c.args.source.now in
    let k = c.args.pairs.now in
    let change = c.args.change.now in
    let made = (changed change s k).0 in
    let p = err_from_is_err_and c.from_residual.result c.from_residual.ensures.1 in
    let r = c.in_err-changes.field-0.0 in
    counts_none (stale s (named c.args.edit.now) made) (file_check made) c.args.meter.now c.from_residual.result r (rw (p.1, p.2) refl)
    (c.in_err-changes.ensures s k change c.args.held.now c.requires)

pub prepare_edits-requires : goal.prepare_edits-requires
prepare_edits-requires c =
    let right = edit_right c.args.source.now c.args.pairs.now c.args.edit.now c.args.change.now c.args.held.now c.requires
    (record { source = c.args.source; made = c.prepared-made.result; changes = c.in_ok-changes.changes; beside = None }) refl c.prepared-made.ensures
    (c.in_ok-changes.ensures c.args.source.now c.args.pairs.now c.args.change.now c.args.held.now c.requires) in
    (named c.args.edit.now, ((changed c.args.change.now c.args.source.now c.args.pairs.now).0, right))

pub returns-clause-checked : goal.returns-clause-checked
returns-clause-checked c =
    let right = edit_right c.args.source.now c.args.pairs.now c.args.edit.now c.args.change.now c.args.held.now c.requires
    (record { source = c.args.source; made = c.prepared-made.result; changes = c.in_ok-changes.changes; beside = None }) refl c.prepared-made.ensures
    (c.in_ok-changes.ensures c.args.source.now c.args.pairs.now c.args.change.now c.args.held.now c.requires) in
    c.prepare_edits.ensures.checked (named c.args.edit.now) (changed c.args.change.now c.args.source.now c.args.pairs.now).0 right

pub returns-clause-ready : goal.returns-clause-ready
returns-clause-ready c =
    let right = edit_right c.args.source.now c.args.pairs.now c.args.edit.now c.args.change.now c.args.held.now c.requires
    (record { source = c.args.source; made = c.prepared-made.result; changes = c.in_ok-changes.changes; beside = None }) refl c.prepared-made.ensures
    (c.in_ok-changes.ensures c.args.source.now c.args.pairs.now c.args.change.now c.args.held.now c.requires) in
    c.prepare_edits.ensures.ready (named c.args.edit.now) (changed c.args.change.now c.args.source.now c.args.pairs.now).0 right

pub returns-clause-counted : goal.returns-clause-counted
returns-clause-counted c =
    let right = edit_right c.args.source.now c.args.pairs.now c.args.edit.now c.args.change.now c.args.held.now c.requires
    (record { source = c.args.source; made = c.prepared-made.result; changes = c.in_ok-changes.changes; beside = None }) refl c.prepared-made.ensures
    (c.in_ok-changes.ensures c.args.source.now c.args.pairs.now c.args.change.now c.args.held.now c.requires) in
    c.prepare_edits.ensures.counted (named c.args.edit.now) (changed c.args.change.now c.args.source.now c.args.pairs.now).0 right

pub returns-clause-encrypted : goal.returns-clause-encrypted
returns-clause-encrypted c =
    let s = c.args.source.now in
    let ks = named c.args.edit.now in
    let made = c.prepared-made in
    let right = edit_right c.args.source.now c.args.pairs.now c.args.edit.now c.args.change.now c.args.held.now c.requires
    (record { source = c.args.source; made = c.prepared-made.result; changes = c.in_ok-changes.changes; beside = None }) refl c.prepared-made.ensures
    (c.in_ok-changes.ensures c.args.source.now c.args.pairs.now c.args.change.now c.args.held.now c.requires) in
    mapped_ok (λ (ready : ReadyHeld). may_set_lead s made.result ≡ false → EncryptsAt ks ready.lines.charstrings)
    (λ (ready : ReadyHeld). is_entry_changed c.args.change.now s ≡ true → EncryptsAt ks ready.lines.charstrings) c.prepare_edits.result
    (λ ready encrypts entry. encrypts (ap (may_set_lead s) made.ensures ∙ ap not entry))
    (c.prepare_edits.ensures.encrypted ks (changed c.args.change.now s c.args.pairs.now).0 right)
