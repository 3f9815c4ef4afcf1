use Rattle.std.proofs.Common.{◌+◌, ap, sym, ◌∙◌}
use Rattle.std.proofs.lemmas.Result.{err_from_is_err_and}
use Rattle.t1_text.specs.Lines.{lines}
use Rattle.t1_parts.specs.PlainRuns.{read_from}
use Rattle.t1_parts.proofs.ItemLaws.{item_read, item_refused}
use Rattle.t1_parts.proofs.private.read_item.Goals as goal

pub returns-in_err-taken-clause-refused : goal.returns-in_err-taken-clause-refused
returns-in_err-taken-clause-refused c =
    let p = err_from_is_err_and c.from_residual.result c.from_residual.ensures.1 in
    rw (p.1, p.2) (item_refused c.args.earlier c.args.number c.args.bytes.now c.in_err-taken.field-0.0 c.requires.some c.in_err-taken.ensures.value)

pub returns-clause-read : goal.returns-clause-read
returns-clause-read c =
    let taken = c.in_ok-taken.taken in
    item_read c.args.earlier c.args.number c.args.bytes.now taken.after.now (taken.item, taken.more) c.requires.some c.in_ok-taken.ensures.value c.in_ok-taken.ensures.after
    ∙ ap (λ e. read_from e (c.args.number + (taken.more + 1)) (lines taken.after.now)) (sym c.in_ok-items.ensures)
