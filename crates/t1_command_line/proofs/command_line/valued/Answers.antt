use Rattle.std.proofs.Common.{ap, ◌∙◌}
use Rattle.clap.specs.Words.{rule_of}
use Rattle.clap.specs.declared.builder.action.ArgAction.TheVariants.{Set}
use Rattle.t1_command_line.proofs.Rules.{conflicts, exclusive, is_global, with_action, with_long, with_names}
use Rattle.t1_command_line.proofs.command_line.valued.Goals as goal

pub returns-clause-rule : goal.returns-clause-rule
returns-clause-rule c = ap rule_of c.action.ensures ∙ ap (with_action Set) (ap rule_of c.help.ensures ∙ ap rule_of c.value_name.ensures ∙ ap (with_names 1) (ap rule_of c.long.ensures ∙ ap (with_long c.args.name.now) c.new.ensures.rule))

pub returns-clause-local : goal.returns-clause-local
returns-clause-local c = ap is_global c.action.ensures ∙ ap is_global c.help.ensures ∙ ap is_global c.value_name.ensures ∙ ap is_global c.long.ensures ∙ c.new.ensures.optional.1

pub returns-clause-free : goal.returns-clause-free
returns-clause-free c = (
  ap exclusive c.action.ensures ∙ ap exclusive c.help.ensures ∙ ap exclusive c.value_name.ensures ∙ ap exclusive c.long.ensures ∙ c.new.ensures.plain.0,
  ap conflicts c.action.ensures ∙ ap conflicts c.help.ensures ∙ ap conflicts c.value_name.ensures ∙ ap conflicts c.long.ensures ∙ c.new.ensures.plain.1,
)
