use Rattle.std.proofs.Common.{drop, take, ◌∙◌, ap}
use Rattle.t1_parts.proofs.PieceLaws.{commented_piece, closed_piece, opened_piece, ended_piece}
use Rattle.t1_parts.proofs.body.piece_of.Goals as goal

pub returns-in_default : goal.returns-in_default
returns-in_default c =
    ended_piece c.args.bytes.now c.split_at.result.0.now c.split_at.result.1.now
    (c.split_at.ensures.front ∙ ap (λ n. take n c.args.bytes.now) c.first_delimiter.ensures.value) (c.split_at.ensures.back ∙ ap (λ n. drop n c.args.bytes.now) c.first_delimiter.ensures.value)
    c.in_default.ensures.cases

pub returns-then-delimiter-eq37 : goal.returns-then-delimiter-eq37
returns-then-delimiter-eq37 c =
    commented_piece c.args.bytes.now c.split_at.result.0.now c.split_at.result.1.now c.in-Some.rest.now c.cut_line.result.1.now c.in-Some.delimiter.now
    (c.split_at.ensures.front ∙ ap (λ n. take n c.args.bytes.now) c.first_delimiter.ensures.value) (c.split_at.ensures.back ∙ ap (λ n. drop n c.args.bytes.now) c.first_delimiter.ensures.value)
    c.in-Some.ensures.cases.0 c.if-delimiter-eq37.true c.cut_line.ensures.after

pub returns-then-delimiter-eq125 : goal.returns-then-delimiter-eq125
returns-then-delimiter-eq125 c =
    closed_piece c.args.bytes.now c.split_at.result.0.now c.split_at.result.1.now c.in-Some.rest.now c.cut_line.result.1.now c.cut_line.result.0.now c.trimmed.result.now c.in-Some.delimiter.now
    (c.split_at.ensures.front ∙ ap (λ n. take n c.args.bytes.now) c.first_delimiter.ensures.value) (c.split_at.ensures.back ∙ ap (λ n. drop n c.args.bytes.now) c.first_delimiter.ensures.value)
    c.in-Some.ensures.cases.0 c.if-delimiter-eq125.true c.cut_line.ensures.after c.cut_line.ensures.line c.trimmed.ensures

pub returns : goal.returns
returns c =
    opened_piece c.args.bytes.now c.split_at.result.0.now c.split_at.result.1.now c.in-Some.rest.now c.in-Some.delimiter.now
    (c.split_at.ensures.front ∙ ap (λ n. take n c.args.bytes.now) c.first_delimiter.ensures.value) (c.split_at.ensures.back ∙ ap (λ n. drop n c.args.bytes.now) c.first_delimiter.ensures.value)
    c.in-Some.ensures.cases.0 c.if-delimiter-eq37.false c.if-delimiter-eq125.false
