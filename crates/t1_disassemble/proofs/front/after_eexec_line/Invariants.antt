use Rattle.std.proofs.Common.{◌≡◌, ◌≤◌, ◌-◌, drop, length}
use Rattle.t1_disassemble.specs.Front.{after_eexec_line}
use Rattle.t1_disassemble.proofs.front.after_eexec_line.Given as goal

-- the line is looked for in the rest
abbrev pub invariant-loop-rest : goal.invariant-loop-rest
invariant-loop-rest l = record {
  line : after_eexec_line l.rest ≡ after_eexec_line l.bytes;
  within : length l.rest ≤ length l.bytes;
  left : l.rest ≡ drop (length l.bytes - length l.rest) l.bytes;
}

abbrev pub decreases-loop-rest : goal.decreases-loop-rest
decreases-loop-rest l = length l.rest
