use Rattle.t1_code.proofs.Commands.{nothing_named}
use Rattle.t1_code.proofs.command.Command.first.Goals as goal

pub returns-in-empty : goal.returns-in-empty
returns-in-empty c = nothing_named c.args.text.now c.in-empty.len_below
