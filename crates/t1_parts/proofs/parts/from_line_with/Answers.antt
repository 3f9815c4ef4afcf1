use Rattle.t1_parts.proofs.SearchLaws.{line_found, nothing_found}
use Rattle.t1_parts.proofs.parts.from_line_with.Goals as goal

pub returns-in_default : goal.returns-in_default
returns-in_default c = nothing_found c.args.text.now c.args.bytes.now c.in_default.ensures

pub returns : goal.returns
returns c =
    line_found c.args.text.now c.args.bytes.now c.split_at.result.0.now c.split_at-2.result.1.now c.in-Some.place c.last_line_start-start.result c.requires.some c.requires.line
    c.in-Some.ensures.0 c.in-Some.ensures.1 c.split_at.ensures.front
    c.last_line_start-start.ensures.within c.last_line_start-start.ensures.line c.last_line_start-start.ensures.cut c.split_at-2.ensures.back
