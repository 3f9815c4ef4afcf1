use Rattle.std.proofs.Common.{◌≡◌, length}
use Rattle.t1_disassemble.specs.Digits.{after_digits}
use Rattle.t1_disassemble.proofs.digits.after_digits.Given as goal

-- what stands after the digits that are left
abbrev pub invariant-loop-left : goal.invariant-loop-left
invariant-loop-left l = after_digits l.left l.rest ≡ after_digits l.count l.text

abbrev pub decreases-loop-left : goal.decreases-loop-left
decreases-loop-left l = length l.rest
