use Rattle.std.proofs.Common.{length, take, sym, ◌∙◌, ap, arith}
use Rattle.std.proofs.lemmas.List.{length-take-le}
use Rattle.t1_text.specs.Lines.{lines}
use Rattle.t1_parts.specs.Stretches.{line_says, lines_say}
use Rattle.t1_parts.proofs.RunCutLaws.{lines_before, none_in_front, none_behind}
use Rattle.t1_parts.proofs.plain_lines.PlainLines.cut.Goals as goal

pub counted-requires-clause-count : goal.counted-requires-clause-count
counted-requires-clause-count c =
    let bytes = c.self.inside.bytes.now in
    let front = ap lines c.split_at.ensures.front ∙ lines_before c.args.at bytes c.after_lines-rest.result.now c.after_lines-rest.ensures in
    sym (ap length front ∙ length-take-le c.args.at (lines bytes) (omega (arith, c.after_lines-rest.ensures.1)))

pub counted-requires-clause-silent : goal.counted-requires-clause-silent
counted-requires-clause-silent c =
    let bytes = c.self.inside.bytes.now in
    let front = ap lines c.split_at.ensures.front ∙ lines_before c.args.at bytes c.after_lines-rest.result.now c.after_lines-rest.ensures in
    ap lines_say front ∙ none_in_front line_says c.args.at (lines bytes) c.self.invariant.2

pub counted-requires-2-clause-silent : goal.counted-requires-2-clause-silent
counted-requires-2-clause-silent c =
    ap lines_say c.after_lines-rest.ensures.2 ∙ none_behind line_says c.args.at (lines c.self.inside.bytes.now) c.self.invariant.2

pub returns-clause-front : goal.returns-clause-front
returns-clause-front c =
    let bytes = c.self.inside.bytes.now in
    let front = ap lines c.split_at.ensures.front ∙ lines_before c.args.at bytes c.after_lines-rest.result.now c.after_lines-rest.ensures in
    c.counted.ensures ∙ front ∙ ap (take c.args.at) c.self.view_is
