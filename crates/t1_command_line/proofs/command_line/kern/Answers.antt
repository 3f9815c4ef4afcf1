use Rattle.t1_command_line.proofs.command_line.kern.Goals as goal

pub returns-clause-rule : goal.returns-clause-rule
returns-clause-rule c = c.valued.ensures.rule

pub returns-clause-local : goal.returns-clause-local
returns-clause-local c = c.valued.ensures.local
