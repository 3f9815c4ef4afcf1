use Rattle.std.proofs.Common.{ap, ap₂, refl, true, false, not, ◌&&◌, Bool, ◌≡◌, ◌∙◌}
use Rattle.std.proofs.lemmas.Result.{IfOk-weaker}
use Rattle.clap.specs.Words.{AddsSubcommand, App, Shape, app_of, with_subcommand}
use Rattle.clap.specs.declared.builder.command.Command.{Command}
use Rattle.t1_command_line.specs.CommandLine.{without_commands}
use Rattle.t1_command_line.proofs.command_line.with_command.Goals as goal

-- a command that is plain has no argument of the commands below it
is_local : (a b g rest : Bool) → (a && (b && (not g && rest))) ≡ true → g ≡ false
is_local true true false rest h = refl
is_local true true true rest h = let never : false ≡ true = h in absurd (cc)
is_local true false g rest h = let never : false ≡ true = h in absurd (cc)
is_local false b g rest h = let never : false ≡ true = h in absurd (cc)

-- a program with one command more, which is plain
with_one : (old sub new : Command) (before : App) (shape : Shape) → AddsSubcommand old sub new → shape.is_plain ≡ true → app_of old ≡ before → app_of sub ≡ without_commands shape
    → app_of new ≡ with_subcommand before shape
with_one old sub new before shape adds plain first second =
    adds.shape (is_local _ _ _ _ (ap (λ (a : App). a.top.is_plain) second ∙ plain)) ∙ ap₂ with_subcommand first (ap (λ (a : App). a.top) second)

pub returns : goal.returns
returns c = λ before shape program command plain.
    let first : app_of c.in_ok-program.field-0 ≡ before = rw c.in_ok-program.was at program in
    let second : app_of c.in_ok-command.field-0 ≡ without_commands shape = rw c.in_ok-command.was at command in
    IfOk-weaker c.subcommand.result _ _ (λ r h. with_one _ _ r before shape h plain first second) c.subcommand.ensures
