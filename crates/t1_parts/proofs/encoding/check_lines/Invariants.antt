use Rattle.std.proofs.Common.{◌≡◌, ◌+◌, drop, if◌then◌else◌}
use Rattle.t1_parts.specs.Encoding.{array_check, later_check, lines_check}
use Rattle.t1_parts.proofs.encoding.check_lines.Given as goal

-- going on from here gives what all the lines give
abbrev pub invariant-loop-line : goal.invariant-loop-line
invariant-loop-line l =
    (lines_check (if l.in_array then array_check else later_check) l.number (drop l.line-index l.lines) ≡ lines_check (if l.in_array then array_check else later_check) l.fn.number l.lines)
    × (l.number ≡ l.fn.number + l.line-index)
