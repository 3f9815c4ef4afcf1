use Rattle.std.proofs.Common.{◌++◌, ◌∙◌, ap, sym, append-nil, drop_of_length-le}
use Rattle.t1_notes.specs.StraysByLine.{strays_by_line}
use Rattle.t1_notes.proofs.Telling.{strays_by}
use Rattle.t1_notes.proofs.glyphs.push_strays.Goals as goal

pub returns : goal.returns
returns c =
    let notes = c.loop-line.notes.items in
    let none = drop_of_length-le c.args.heads.now {i = c.loop-line.line-index} c.loop-line-test.false in
    sym (append-nil notes)
    ∙ ap (λ ls. notes ++ strays_by_line c.loop-line.follows ls) (sym none)
    ∙ c.loop-line.invariant
    ∙ ap (λ ns. c.args.notes.now.items ++ ns) (sym (strays_by c.args.heads.now))
