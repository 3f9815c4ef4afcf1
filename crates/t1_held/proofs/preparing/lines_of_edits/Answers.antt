use Rattle.std.proofs.Common.{◌≡◌, ◌∙◌, false, subst, sym}
use Rattle.t1_parts.specs.LenIV.{lead}
use Rattle.t1_source.specs.EditedSource.{may_set_lead}
use Rattle.t1_charstrings.specs.declared.settling.ReadyCharstrings.TheVariants as ready
use Rattle.t1_charstrings.specs.declared.settling.ReadyLines.{ReadyLines}
use Rattle.t1_rerun.specs.Settled.{changed_keys}
use Rattle.t1_held.specs.Ready.{EncryptsAt}
use Rattle.t1_held.proofs.CommitLaws.{mapped_ok}
use Rattle.t1_held.proofs.Encrypting.{none_fresh}
use Rattle.t1_held.proofs.preparing.lines_of_edits.Goals as goal

pub prepare_lines-requires-clause-edits : goal.prepare_lines-requires-clause-edits
prepare_lines-requires-clause-edits c =
    c.requires.edits c.in_ok-entries.entries c.in_ok-entries.ensures.fresh c.in_ok-entries.ensures.gone

pub returns-clause-encrypted : goal.returns-clause-encrypted
returns-clause-encrypted c =
    let s = c.args.source.now in
    let changes = c.args.changes.now in
    let entries = c.in_ok-entries.entries in
    let ks = changed_keys changes in
    mapped_ok (λ (lines : ReadyLines). lines.charstrings ≡ ready.Edited entries)
    (λ (lines : ReadyLines). may_set_lead s c.args.made.now ≡ false → EncryptsAt ks lines.charstrings) c.prepare_lines.result
    (λ lines is stays. subst (EncryptsAt ks) (sym is) (λ k off. c.in_ok-entries.ensures.fresh k ∙ none_fresh (lead s) changes k off))
    c.prepare_lines.ensures.edited
