use Rattle.std.proofs.Common.{◌++◌, ◌∙◌, ap, sym, append-nil, drop_of_length-le}
use Rattle.t1_notes.specs.HeadsByLine.{heads_by_line}
use Rattle.t1_notes.proofs.Telling.{heads_by}
use Rattle.t1_notes.proofs.heads.section_heads.Goals as goal

pub returns : goal.returns
returns c =
    let found = c.loop-line.found.items in
    let none = drop_of_length-le c.args.lines.now {i = c.loop-line.line-index} c.loop-line-test.false in
    sym (append-nil found)
    ∙ ap (λ ls. found ++ heads_by_line c.args.section c.loop-line.in_entry ls) (sym none)
    ∙ c.loop-line.invariant
    ∙ sym (heads_by c.args.section c.args.lines.now)
