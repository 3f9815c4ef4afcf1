use Rattle.std.proofs.Common.{◌≡◌, ◌∷◌, ap, length, sym, ◌∙◌, subst, drop, arith}
use Rattle.t1_text.specs.Lines.{lines}
use Rattle.t1_text.proofs.CutLaws.{lines_within}
use Rattle.t1_parts.specs.Entries.{has_numbered}
use Rattle.t1_parts.specs.LineKinds.{IsOfKind}
use Rattle.t1_parts.specs.PlainRuns.{AreAmong}
use Rattle.t1_parts.specs.Sections.{is_subrs_line, is_glyphs_line}
use Rattle.t1_parts.proofs.PlainRunLaws.{among_more}
use Rattle.t1_parts.proofs.RunCutLaws.{cut_line_on, one_more}
use Rattle.t1_parts.proofs.private.past_plain.Goals as goal

pub overflow_add-count : goal.overflow_add-count
overflow_add-count c =
    let size = lines_within c.args.bytes.now in
    let first = ap length c.next_line.ensures.lines in
    omega (arith, size, first, c.loop-line.invariant.0.1)

pub loop-line-preserved : goal.loop-line-preserved
loop-line-preserved c =
    let cut = c.next_line.ensures in
    let so_far = c.loop-line.invariant in
    let ls = lines c.args.bytes.now in
    let line = c.next_line.result.0.now in
    let here : drop c.loop-line.count ls ≡ line ∷ lines c.next_line.result.1.now = sym so_far.0.2 ∙ cut.lines in
    let subrs = has_numbered is_subrs_line c.args.earlier.now in
    let glyphs = has_numbered is_glyphs_line c.args.earlier.now in
    let among = subst (IsOfKind subrs glyphs line) c.in-Among.is c.kind_of.ensures in (
      cut_line_on c.loop-line.count c.args.bytes.now c.loop-line.rest.now line c.next_line.result.1.now so_far.0 cut.lines cut.shorter cut.cut,
      subst (AreAmong subrs glyphs) (sym (one_more c.loop-line.count ls line (lines c.next_line.result.1.now) here)) (among_more subrs glyphs _ line so_far.1 among),
    )
