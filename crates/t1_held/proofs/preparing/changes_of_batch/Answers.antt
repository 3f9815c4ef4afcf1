use Rattle.std.proofs.Common.{map}
use Rattle.t1_frac.specs.Outcome.{Refuses}
use Rattle.t1_font.specs.Assembly.{file_check}
use Rattle.t1_held.specs.Batch.{entry_edit, keys}
use Rattle.t1_held.specs.Drafting.{AreBatchChanges}
use Rattle.t1_held.specs.Edits.{AreChanges}
use Rattle.t1_held.proofs.CommitLaws.{batch_changes_are, mapped}
use Rattle.t1_held.proofs.HeldLaws.{held_well}
use Rattle.t1_held.proofs.preparing.changes_of_batch.Goals as goal

pub returns : goal.returns
returns c = λ h held edited.
    let s = c.args.source.now in
    let made = c.args.made.now in
    let ks = keys (map entry_edit c.args.entries.items) in
    mapped (λ x. AreBatchChanges s made ks x.items) (λ x. AreChanges s made ks h x.items) (λ r. Refuses r (file_check made)) c.batch_changes.result
    (λ x are. batch_changes_are s made ks x.items h held edited.well are)
    (c.batch_changes.ensures s (held_well s h held c.text_of_source_read.ensures) held.encrypted.sound edited)
