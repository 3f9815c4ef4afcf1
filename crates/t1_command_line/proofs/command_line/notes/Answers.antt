use Rattle.t1_command_line.proofs.command_line.notes.Goals as goal

pub returns : goal.returns
returns c = c.of_sources.ensures _ (c.with_arg.ensures _ _ c.named-command.ensures c.strict.ensures.rule c.strict.ensures.local)
