use Rattle.std.proofs.Common.{◌≡◌, ◌∙◌, ap, refl, subst, sym, Err, Ok}
use Rattle.std.proofs.lemmas.Result.{err_from_is_err_and}
use Rattle.t1_frac.specs.Outcome.{Refuses}
use Rattle.t1_parts.specs.LenIV.{lead}
use Rattle.t1_font.specs.Assembly.{file_check}
use Rattle.t1_font.specs.Runs.{Counts}
use Rattle.t1_font.specs.RunCounts.{counted}
use Rattle.t1_cache.specs.Edited.{stale}
use Rattle.t1_charstrings.specs.Batch.{AreEdits}
use Rattle.t1_charstrings.specs.Ready.{IsReadyLines}
use Rattle.t1_rerun.specs.Settled.{changed_keys}
use Rattle.t1_rerun.proofs.Judged.{file-refused}
use Rattle.t1_rerun.proofs.Preparing.{as-self}
use Rattle.t1_held.specs.declared.held.ReadyHeld.{ReadyHeld}
use Rattle.t1_held.specs.Entries.{fresh_in, gone_keys}
use Rattle.t1_held.specs.Ready.{EncryptsAt}
use Rattle.t1_held.proofs.CommitLaws.{changes_of, edits_are, runs_are}
use Rattle.t1_held.proofs.Encrypting.{encrypts_same}
use Rattle.t1_held.proofs.HeldLaws.{counts_none, made_of_held, still_held}
use Rattle.t1_held.proofs.preparing.prepare_edits.Goals as goal

pub lines_of_edits-requires-clause-prepared : goal.lines_of_edits-requires-clause-prepared
lines_of_edits-requires-clause-prepared c =
    made_of_held c.requires.0 c.requires.1.0 c.args.held.now c.args.edits c.requires.1.1

pub lines_of_edits-requires-clause-edits : goal.lines_of_edits-requires-clause-edits
lines_of_edits-requires-clause-edits c = λ entries fresh gone.
    let e = c.args.edits in
    let s = e.source.now in
    let made = c.requires.1.0 in
    let right = c.requires.1.1 in
    let charstrings = c.args.held.now.charstrings in
    let changes = e.changes.items in
    let are = right.changes in
    subst (λ m. AreEdits s m charstrings entries) (sym right.made)
    (edits_are s made changes charstrings entries right.held.encrypted right.well are.compiled are.edited are.keys are.bodies
    (λ k. fresh k ∙ ap (λ l. fresh_in (lead s) l k) c.deref.ensures.value)
    (gone ∙ ap gone_keys c.deref.ensures.value))

pub returns-in_err-lines-clause-checked : goal.returns-in_err-lines-clause-checked
returns-in_err-lines-clause-checked c = λ ks made right.
    let p = err_from_is_err_and c.from_residual.result c.from_residual.ensures.1 in
    let r = c.in_err-lines.field-0.0 in
    rw (p.1, p.2) (file-refused made r (subst (λ m. Refuses r (file_check m)) right.made c.in_err-lines.ensures.judged))

pub returns-in_err-lines-clause-held : goal.returns-in_err-lines-clause-held
returns-in_err-lines-clause-held c =
    still_held c.args.held.now _ (as-self c.args.held.now.records) c.in_err-lines.ensures.same refl

pub returns-in_err-lines-clause-counted : goal.returns-in_err-lines-clause-counted
returns-in_err-lines-clause-counted c = λ ks made right.
    let p = err_from_is_err_and c.from_residual.result c.from_residual.ensures.1 in
    let r = c.in_err-lines.field-0.0 in
    counts_none (stale c.args.edits.source.now ks made) (file_check made) c.args.meter.now c.from_residual.result r (rw (p.1, p.2) refl)
    (subst (λ m. Refuses r (file_check m)) right.made c.in_err-lines.ensures.judged)

pub prepare_changes-requires : goal.prepare_changes-requires
prepare_changes-requires c =
    let e = c.args.edits in
    let made = c.requires.1.0 in
    (e.source.now, (made, changes_of c.requires.0 made c.args.held.now e c.requires.1.1 c.in_ok-lines.ensures.judged))

pub returns-in-Err-clause-checked : goal.returns-in-Err-clause-checked
returns-in-Err-clause-checked c = λ ks made right.
    let e = c.args.edits in
    c.in-Err.ensures.checked e.source.now made (changes_of ks made c.args.held.now e right c.in_ok-lines.ensures.judged)

pub returns-in-Err-clause-held : goal.returns-in-Err-clause-held
returns-in-Err-clause-held c =
    still_held c.args.held.now _ c.in-Err.ensures.same c.in_ok-lines.ensures.same refl

pub returns-in-Err-clause-counted : goal.returns-in-Err-clause-counted
returns-in-Err-clause-counted c = λ ks made right.
    let e = c.args.edits in
    let s = e.source.now in
    let held = c.args.held.now in
    let file = c.in_ok-lines.ensures.judged in
    subst (λ n. Counts {T = ReadyHeld} n c.args.meter.now c.prepare_changes.new.meter (Err c.in-Err.refusal))
    (runs_are s made ks held e.changes.items right.changes (subst (λ m. file_check m ≡ Ok tt) right.made file))
    (c.in-Err.ensures.counted s made (changes_of ks made held e right file))

pub returns-in-Ok-clause-checked : goal.returns-in-Ok-clause-checked
returns-in-Ok-clause-checked c = λ ks made right.
    let e = c.args.edits in
    c.in-Ok.ensures.checked e.source.now made (changes_of ks made c.args.held.now e right c.in_ok-lines.ensures.judged)

pub returns-in-Ok-clause-ready : goal.returns-in-Ok-clause-ready
returns-in-Ok-clause-ready c = λ ks made right.
    let e = c.args.edits in
    record {
      changes = e.changes.items;
      same = right.changes.same;
      records = c.in-Ok.ensures.ready e.source.now made (changes_of ks made c.args.held.now e right c.in_ok-lines.ensures.judged);
      lines = subst (λ m. IsReadyLines m c.lines_of_edits.new.charstrings c.in_ok-lines.lines) right.made c.in_ok-lines.ensures.ready;
    }

pub returns-in-Ok-clause-encrypted : goal.returns-in-Ok-clause-encrypted
returns-in-Ok-clause-encrypted c = λ ks made right stays.
    let e = c.args.edits in
    let charstrings = c.in_ok-lines.lines.charstrings in
    encrypts_same (changed_keys e.changes.items) ks charstrings right.changes.same
    (subst (λ l. EncryptsAt (changed_keys l) charstrings) c.deref.ensures.value (c.in_ok-lines.ensures.encrypted stays))

pub returns-in-Ok-clause-held : goal.returns-in-Ok-clause-held
returns-in-Ok-clause-held c =
    still_held c.args.held.now _ c.in-Ok.ensures.same c.in_ok-lines.ensures.same refl

pub returns-in-Ok-clause-counted : goal.returns-in-Ok-clause-counted
returns-in-Ok-clause-counted c = λ ks made right.
    let e = c.args.edits in
    let s = e.source.now in
    let held = c.args.held.now in
    let file = c.in_ok-lines.ensures.judged in
    subst (λ n. c.prepare_changes.new.meter ≡ counted c.args.meter.now n)
    (runs_are s made ks held e.changes.items right.changes (subst (λ m. file_check m ≡ Ok tt) right.made file))
    (c.in-Ok.ensures.counted s made (changes_of ks made held e right file))
