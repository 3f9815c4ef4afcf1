use Rattle.std.proofs.Common.{sym, subst, w32}
use Rattle.std.proofs.lemmas.Int.{to_z-of_z}
use Rattle.t1_code.specs.declared.command.Command.TheVariants.{Num}
use Rattle.t1_disassemble.specs.KnownCommands.{IsKnownCommand}
use Rattle.t1_disassemble.proofs.CommandLaws.{number_known}
use Rattle.t1_disassemble.proofs.known_command.KnownCommand.number.Goals as goal

pub invariant_of-result : goal.invariant_of-result
invariant_of-result c =
    subst (λ n. IsKnownCommand c.args.first (Num n)) (sym (to_z-of_z w32 c.args.number c.ranges.number))
    (number_known c.args.first c.args.number c.requires.low c.requires.high c.requires.value c.ranges.number)
