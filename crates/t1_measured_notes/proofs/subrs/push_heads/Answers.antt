use Rattle.std.proofs.Common.{◌++◌, ◌∙◌, ap, sym, append-nil, drop_of_length-le}
use Rattle.t1_measured_notes.specs.UnusedByLine.{unused_by_line}
use Rattle.t1_run.specs.RunKeys.{has_number}
use Rattle.t1_measured_notes.proofs.Unused.{unused_by}
use Rattle.t1_measured_notes.proofs.subrs.push_heads.Goals as goal

pub returns : goal.returns
returns c =
    let notes = c.loop-line.notes.items in
    let entered = has_number c.args.entered.now.keys in
    let none = drop_of_length-le c.args.heads.now {i = c.loop-line.line-index} c.loop-line-test.false in
    sym (append-nil notes)
    ∙ ap (λ ls. notes ++ unused_by_line entered c.loop-line.follows ls) (sym none)
    ∙ c.loop-line.invariant
    ∙ ap (λ ns. c.args.notes.now.items ++ ns) (sym (unused_by entered c.args.heads.now))
