use Rattle.std.proofs.Common.{ap, ◌∙◌}
use Rattle.clap.specs.Words.{rule_of}
use Rattle.t1_command_line.proofs.Rules.{is_global, with_short}
use Rattle.t1_command_line.proofs.command_line.output.Goals as goal

pub returns-clause-rule : goal.returns-clause-rule
returns-clause-rule c = ap rule_of c.short.ensures ∙ ap (with_short 111) c.valued.ensures.rule

pub returns-clause-local : goal.returns-clause-local
returns-clause-local c = ap is_global c.short.ensures ∙ c.valued.ensures.local
