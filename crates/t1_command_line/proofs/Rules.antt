-- What the steps of an argument's building make of its rule.
use Rattle.std.proofs.Common.{ℕ, List, Some}
use Rattle.std.specs.Borrow.{Bor}
use Rattle.std.specs.Prelude.{Bool, true}
use Rattle.clap.specs.Words.{Rule, Text}
use Rattle.clap.specs.declared.builder.arg.Arg.{Arg}
use Rattle.clap.specs.declared.builder.action.ArgAction.{ArgAction}

abbrev pub with_short : ℕ → Rule → Rule
with_short letter rule = record rule { short = Some letter }

abbrev pub with_long : Text → Rule → Rule
with_long name rule = record rule { long = Some name }

abbrev pub with_names : ℕ → Rule → Rule
with_names count rule = record rule { value_names = count }

abbrev pub with_action : ArgAction → Rule → Rule
with_action action rule = record rule { action = Some action }

abbrev pub when_required : Rule → Rule
when_required rule = record rule { required = true }

-- whether the commands below take the argument too
abbrev pub is_global : Arg → Bool
is_global arg = arg.global

-- what a conflict with another argument is added to
abbrev pub exclusive : Arg → Bool
exclusive arg = arg.exclusive

abbrev pub conflicts : Arg → List (Bor (List ℕ))
conflicts arg = arg.conflicts.items
