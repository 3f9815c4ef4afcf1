use Rattle.std.proofs.Common.{length, take}
use Rattle.t1_text.specs.Lines.{lines}
use Rattle.t1_parts.specs.Entries.{has_numbered}
use Rattle.t1_parts.specs.Stretches.{IsCutAfter}
use Rattle.t1_parts.specs.PlainRuns.{AreAmong}
use Rattle.t1_parts.specs.Sections.{is_subrs_line, is_glyphs_line}
use Rattle.t1_parts.proofs.private.past_plain.Given as goal

-- the lines passed may stand among plain lines
abbrev pub invariant-loop-line : goal.invariant-loop-line
invariant-loop-line l =
    IsCutAfter l.count l.bytes l.rest × AreAmong (has_numbered is_subrs_line l.earlier) (has_numbered is_glyphs_line l.earlier) (take l.count (lines l.bytes))

abbrev pub decreases-loop-line : goal.decreases-loop-line
decreases-loop-line l = length l.rest
