use Rattle.std.proofs.Common.{◌≡◌, ◌≤◌, ◌+◌, length}
use Rattle.std.specs.Prelude.{filter}
use Rattle.t1_text.specs.Lines.{lines}
use Rattle.t1_parts.specs.Sections.{subrs_line, glyphs_line}
use Rattle.t1_disassemble.specs.Kinds.{is_line_of}
use Rattle.t1_disassemble.proofs.kinds.section_counts.Given as goal

-- the lines of each kind so far, and those that are left
abbrev pub invariant-loop-line : goal.invariant-loop-line
invariant-loop-line l = record {
  subrs : l.subrs + length (filter (is_line_of subrs_line) (lines l.rest)) ≡ length (filter (is_line_of subrs_line) (lines l.text));
  glyphs : l.glyphs + length (filter (is_line_of glyphs_line) (lines l.rest)) ≡ length (filter (is_line_of glyphs_line) (lines l.text));
  few : l.subrs + length l.rest ≤ length l.text;
  fewer : l.glyphs + length l.rest ≤ length l.text;
}

abbrev pub decreases-loop-line : goal.decreases-loop-line
decreases-loop-line l = length l.rest
