use Rattle.std.proofs.Common.{◌∙◌, ap, map, subst, sym}
use Rattle.t1_source.proofs.EditedSourceLaws.{source_alone}
use Rattle.t1_charstrings.specs.Beside.{IsKeptBeside}
use Rattle.t1_held.specs.Batch.{count_begin, entry_edit, keys, DraftedBatch}
use Rattle.t1_held.specs.Drafting.{IsCountedBy, IsEditedBy}
use Rattle.t1_held.proofs.Drafting.{draft-of, drafts}
use Rattle.t1_held.proofs.batch.Batch.edit.Goals as goal

pub len_beside-beside-requires : goal.len_beside-beside-requires
len_beside-beside-requires c =
    record { pairs = c.self.inside.pairs; serves = c.in_ok-change.ensures.serves; well = c.source_is_well_formed.ensures }

pub returns-in_ok-commit-in-Ok-clause-edited : goal.returns-in_ok-commit-in-Ok-clause-edited
returns-in_ok-commit-in-Ok-clause-edited c =
    drafts c.args.self.now.draft c.args.edit.now c.in_ok-change.change c.self.inside.source c.commit.new.self c.self.inside.pairs c.commit.new.pairs
    c.in-Ok.entry c.self.inside.edits.entries.items c.entry_with_room.new.entries.items c.note.new.entries.items
    (ap (λ (b : DraftedBatch). b.draft) c.self.view_is) c.in_ok-change.ensures.change c.in_ok-commit-in-Ok.ensures.source c.in_ok-commit-in-Ok.ensures.pairs c.in-Ok.ensures.entry
    c.in-Ok.ensures.same c.note.ensures

pub returns-in_ok-commit-in-Ok-clause-counted : goal.returns-in_ok-commit-in-Ok-clause-counted
returns-in_ok-commit-in-Ok-clause-counted c =
    let change = c.in_ok-change.change in
    let source = c.self.inside.source in
    let before : DraftedBatch = record {
      draft = record { source = source; pairs = c.self.inside.pairs; keys = keys (map entry_edit c.self.inside.edits.entries.items) };
      entries = map entry_edit c.self.inside.edits.entries.items;
      beside = c.self.inside.edits.beside;
    } in
    let after : DraftedBatch = record {
      draft = record { source = c.commit.new.self; pairs = c.commit.new.pairs; keys = keys (map entry_edit c.note.new.entries.items) };
      entries = map entry_edit c.note.new.entries.items;
      beside = c.len_beside-beside.result;
    } in
    let counted : IsCountedBy before after = record {
      change = change;
      fits = record { pairs = c.self.inside.pairs; serves = c.in_ok-change.ensures.serves; well = c.source_is_well_formed.ensures };
      made = source_alone change source c.self.inside.pairs ∙ sym c.in_ok-commit-in-Ok.ensures.source;
      counted = c.len_beside-beside.ensures.counted;
    } in
    subst (λ (b : DraftedBatch). IsCountedBy b after) c.self.view_is counted

pub returns-in_ok-commit-in-Ok-clause-draft : goal.returns-in_ok-commit-in-Ok-clause-draft
returns-in_ok-commit-in-Ok-clause-draft c = λ s was.
    let change = c.in_ok-change.change in
    let source = c.self.inside.source in
    record {
      edited =
          draft-of c.args.self.now.draft c.args.edit.now change source c.commit.new.self c.self.inside.pairs c.commit.new.pairs
          c.in-Ok.entry c.self.inside.edits.entries.items c.entry_with_room.new.entries.items c.note.new.entries.items
          (ap (λ (b : DraftedBatch). b.draft) c.self.view_is) c.in_ok-change.ensures.change c.in_ok-commit-in-Ok.ensures.source c.in_ok-commit-in-Ok.ensures.pairs c.in-Ok.ensures.entry
          c.in-Ok.ensures.same c.note.ensures c.in_ok-change.ensures.serves.source s
          (subst (λ (b : DraftedBatch). IsEditedBy b.entries s b.draft.source) (sym c.self.view_is) was.edited);
      beside =
          subst (λ t. IsKeptBeside s count_begin t c.len_beside-beside.result)
          (source_alone change source c.self.inside.pairs ∙ sym c.in_ok-commit-in-Ok.ensures.source)
          (c.len_beside-beside.ensures.kept s count_begin (subst (λ (b : DraftedBatch). IsKeptBeside s count_begin b.draft.source b.beside) (sym c.self.view_is) was.beside));
    }
