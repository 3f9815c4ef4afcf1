use Rattle.std.proofs.Common.{◌≡◌, ◌+◌, false, length}
use Rattle.t1_text.specs.Lines.{lines}
use Rattle.t1_faults.specs.Openings.{first_line_opening}
use Rattle.t1_faults.specs.CodeForms.{key_found}
use Rattle.t1_faults.proofs.opening.first_opening.Given as goal

-- the first line from here on is the first of all
abbrev pub invariant-loop-rest : goal.invariant-loop-rest
invariant-loop-rest l = record {
  first : first_line_opening (key_found l.key) l.begun l.number (lines l.rest) ≡ first_line_opening (key_found l.key) false 1 (lines l.bytes);
  count : l.number + length (lines l.rest) ≡ 1 + length (lines l.bytes);
}

abbrev pub decreases-loop-rest : goal.decreases-loop-rest
decreases-loop-rest l = length (lines l.rest)
