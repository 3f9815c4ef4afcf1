use Rattle.std.proofs.Common.{Ok, subst, sym, ◌∙◌}
use Rattle.t1_session.specs.OpenBatch.{OpensWith}
use Rattle.t1_session.proofs.BatchLaws.{drafts_again, single_drafts}
use Rattle.t1_session.proofs.open_batch.OpenBatch.edit.Goals as goal

pub returns-then-is_unedited : goal.returns-then-is_unedited
returns-then-is_unedited c =
    single_drafts c.args.source.now c.args.pairs.now c.args.self.now c.replace.new.dest c.args.edit.now (sym c.is_unedited.ensures ∙ c.if-is_unedited.true)
    (subst (λ b. OpensWith c.args.edit.now c.args.source.now c.args.pairs.now (Ok b)) (sym c.replace.ensures.after) c.in_ok-single.ensures)

pub returns : goal.returns
returns c =
    drafts_again c.args.source.now c.args.pairs.now c.args.self.now c.draft.new.self c.edit_copies.new.self c.args.edit.now c.edit_copies.result c.in_ok-draft.ensures.same
    (c.edit_copies.ensures c.args.source.now c.args.pairs.now c.in_ok-draft.ensures.kept)
