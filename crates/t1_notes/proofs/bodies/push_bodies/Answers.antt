use Rattle.std.proofs.Common.{◌++◌, ◌∙◌, ap, sym, append-nil, drop_of_length-le}
use Rattle.t1_notes.specs.Kept.{notes_by_line}
use Rattle.t1_notes.proofs.Telling.{bodies_by_line}
use Rattle.t1_notes.proofs.bodies.push_bodies.Goals as goal

pub returns : goal.returns
returns c =
    let notes = c.loop-line.notes.items in
    let none = drop_of_length-le c.args.lines.now {i = c.loop-line.line-index} c.loop-line-test.false in
    sym (append-nil notes)
    ∙ ap (λ ls. notes ++ notes_by_line c.loop-line.kept ls) (sym none)
    ∙ c.loop-line.invariant
    ∙ ap (λ ns. c.args.notes.now.items ++ ns) (sym (bodies_by_line c.args.lines.now))
