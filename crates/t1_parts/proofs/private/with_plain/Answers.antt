use Rattle.std.proofs.Common.{◌≡◌, ◌++◌, ap, length, sym, ◌∙◌, subst, arith, IfOk}
use Rattle.std.proofs.lemmas.List.{length-take-le}
use Rattle.t1_text.specs.Lines.{lines}
use Rattle.t1_text.proofs.CutLaws.{lines_within}
use Rattle.t1_parts.specs.Entries.{has_numbered}
use Rattle.t1_parts.specs.NumberedStretches.{numbered_lines}
use Rattle.t1_parts.specs.Stretches.{lines_say}
use Rattle.t1_parts.specs.Sections.{is_subrs_line, is_glyphs_line}
use Rattle.t1_parts.proofs.PlainRunLaws.{among_silent}
use Rattle.t1_parts.proofs.RunCutLaws.{lines_before}
use Rattle.t1_parts.proofs.private.with_plain.Goals as goal

pub counted-requires-clause-some : goal.counted-requires-clause-some
counted-requires-clause-some c =
    let front = ap lines c.split_at.ensures.front ∙ lines_before c.args.count c.args.bytes.now c.args.rest.now c.requires.cut in
    let size = ap length front ∙ length-take-le c.args.count (lines c.args.bytes.now) (omega (arith, c.requires.cut.1)) in
    omega (arith, size, lines_within c.split_at.result.0.now, c.if-count-eq0.false)

pub counted-requires-clause-count : goal.counted-requires-clause-count
counted-requires-clause-count c =
    let front = ap lines c.split_at.ensures.front ∙ lines_before c.args.count c.args.bytes.now c.args.rest.now c.requires.cut in
    sym (ap length front ∙ length-take-le c.args.count (lines c.args.bytes.now) (omega (arith, c.requires.cut.1)))

pub counted-requires-clause-silent : goal.counted-requires-clause-silent
counted-requires-clause-silent c =
    let front = ap lines c.split_at.ensures.front ∙ lines_before c.args.count c.args.bytes.now c.args.rest.now c.requires.cut in
    ap lines_say front ∙ among_silent (has_numbered is_subrs_line c.args.earlier) (has_numbered is_glyphs_line c.args.earlier) _ c.requires.among

pub with_lines-requires : goal.with_lines-requires
with_lines-requires c =
    let front = ap lines c.split_at.ensures.front ∙ lines_before c.args.count c.args.bytes.now c.args.rest.now c.requires.cut in
    let size = ap length (c.counted.ensures ∙ front) ∙ length-take-le c.args.count (lines c.args.bytes.now) (omega (arith, c.requires.cut.1)) in
    omega (arith, size, c.requires.cut.1, c.requires.fits)

pub returns : goal.returns
returns c =
    let front = ap lines c.split_at.ensures.front ∙ lines_before c.args.count c.args.bytes.now c.args.rest.now c.requires.cut in
    subst (λ ls. IfOk c.with_lines.result (λ items. items ≡ c.args.earlier ++ numbered_lines c.args.number ls)) (c.counted.ensures ∙ front) c.with_lines.ensures
