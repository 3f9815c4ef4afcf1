use Rattle.std.proofs.Common.{◌≡◌, [], length}
use Rattle.t1_text.specs.Tokens.{tokens}
use Rattle.t1_disassemble.specs.Standing.{read_outside}
use Rattle.t1_disassemble.specs.Stood.{prefixed}
use Rattle.t1_disassemble.proofs.standing.read_outside.Given as goal

-- no token before the rest is the operator
abbrev pub invariant-loop-token : goal.invariant-loop-token
invariant-loop-token l = read_outside l.operator l.part (prefixed l.is_subr l.name) (tokens l.rest) ≡ read_outside l.operator l.part [] (tokens l.line)

abbrev pub decreases-loop-token : goal.decreases-loop-token
decreases-loop-token l = length l.rest
