use Rattle.std.proofs.Common.{◌≡◌, drop}
use Rattle.std.specs.Str.{bytes_eq}
use Rattle.t1_code.proofs.command.same_bytes.Given as goal

-- the bytes so far are the same, so that the others decide
abbrev pub invariant-loop-at : goal.invariant-loop-at
invariant-loop-at l = bytes_eq (drop l.at l.one) (drop l.at l.other) ≡ bytes_eq l.one l.other
