use Rattle.std.proofs.Common.{◌≡◌, ◌++◌, take}
use Rattle.t1_code.specs.Charstring.{charstring}
use Rattle.t1_code.proofs.charstring.push_commands.Given as goal

-- the code of the commands so far
abbrev pub invariant-loop-command : goal.invariant-loop-command
invariant-loop-command l = l.code.items ≡ l.fn.code.items ++ charstring (take l.command-index l.commands)
