use Rattle.std.proofs.Common.{rules}
use Rattle.t1_parts.specs.Sections.{subrs_line, glyphs_line}
use Rattle.t1_disassemble.specs.Kinds.{is_line_of}
use Rattle.t1_disassemble.proofs.SlashLaws.{no_subrs, no_glyphs, next_line}
use Rattle.t1_disassemble.proofs.kinds.next_slashed.Goals as goal

pub returns-clause-subrs : goal.returns-clause-subrs
returns-clause-subrs c =
    next_line (is_line_of subrs_line) no_subrs c.args.bytes.now c.split_at.result.0.now c.split_at-2.result.1.now c.first_line.result.0.now c.first_line.result.1.now c.last_line_start-start.result c.slash_place-place.result
    c.split_at.ensures.front c.split_at-2.ensures.back (search rules) c.slash_place-place.ensures.value (search rules) c.last_line_start-start.ensures.line c.last_line_start-start.ensures.cut c.first_line.ensures.lines

pub returns-clause-glyphs : goal.returns-clause-glyphs
returns-clause-glyphs c =
    next_line (is_line_of glyphs_line) no_glyphs c.args.bytes.now c.split_at.result.0.now c.split_at-2.result.1.now c.first_line.result.0.now c.first_line.result.1.now c.last_line_start-start.result c.slash_place-place.result
    c.split_at.ensures.front c.split_at-2.ensures.back (search rules) c.slash_place-place.ensures.value (search rules) c.last_line_start-start.ensures.line c.last_line_start-start.ensures.cut c.first_line.ensures.lines
