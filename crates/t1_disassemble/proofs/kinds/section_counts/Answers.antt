use Rattle.std.proofs.Common.{length}
use Rattle.t1_text.specs.Lines.{lines}
use Rattle.t1_parts.specs.Sections.{subrs_line, glyphs_line}
use Rattle.t1_disassemble.proofs.KindLaws.{counted_more, few_more}
use Rattle.t1_disassemble.proofs.kinds.section_counts.Goals as goal

pub loop-line-preserved : goal.loop-line-preserved
loop-line-preserved c =
    let i = c.loop-line.invariant in
    let line = c.in-Some.line.now in
    let after = c.in-Some.after.now in
    record {
      subrs = counted_more subrs_line c.loop-line.subrs c.counts-some_subrs.result.0 _ line (lines c.loop-line.rest.now) (lines after) c.in-Some.ensures.subrs c.counts-some_subrs.ensures.subrs i.subrs;
      glyphs = counted_more glyphs_line c.loop-line.glyphs c.counts-some_subrs.result.1 _ line (lines c.loop-line.rest.now) (lines after) c.in-Some.ensures.glyphs c.counts-some_subrs.ensures.glyphs i.glyphs;
      few = few_more subrs_line c.loop-line.subrs c.counts-some_subrs.result.0 (length c.loop-line.rest.now) (length after) (length c.args.text.now) line c.counts-some_subrs.ensures.subrs c.in-Some.ensures.shorter i.few;
      fewer = few_more glyphs_line c.loop-line.glyphs c.counts-some_subrs.result.1 (length c.loop-line.rest.now) (length after) (length c.args.text.now) line c.counts-some_subrs.ensures.glyphs c.in-Some.ensures.shorter i.fewer;
    }
