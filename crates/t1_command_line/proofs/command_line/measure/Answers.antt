use Rattle.t1_command_line.proofs.command_line.measure.Goals as goal

pub returns : goal.returns
returns c = c.of_source.ensures _ (c.with_arg.ensures _ _ c.named-command.ensures c.kern.ensures.rule c.kern.ensures.local)
