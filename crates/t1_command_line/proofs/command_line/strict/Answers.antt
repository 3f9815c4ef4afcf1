use Rattle.t1_command_line.proofs.command_line.strict.Goals as goal

pub returns-clause-rule : goal.returns-clause-rule
returns-clause-rule c = c.flag.ensures.rule

pub returns-clause-local : goal.returns-clause-local
returns-clause-local c = c.flag.ensures.local
