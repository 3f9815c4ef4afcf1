use Rattle.t1_command_line.proofs.command_line.check.Goals as goal

pub returns : goal.returns
returns c = c.of_sources.ensures _ c.named-command.ensures
