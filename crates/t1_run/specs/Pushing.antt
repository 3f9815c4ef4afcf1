-- Numbers that are pushed one after another.
use Rattle.std.specs.Prelude.{ℕ, Bool, List, take, Option, Some, None}
use Rattle.std.specs.List.{take_while, filter_map}
use Rattle.std.specs.Option.{is_some}
use Rattle.t1_frac.specs.Fraction.{Fraction, whole}
use Rattle.t1_code.specs.declared.command.Command.{Command}
use Rattle.t1_code.specs.declared.command.Command.TheVariants.{Num}

-- word: the value of a number
abbrev pub pushed_value : Command → Option Fraction
pushed_value (Num k) = Some (whole k)
pushed_value _ = None

-- word: a number, which is pushed
abbrev pub is_number : Command → Bool
is_number c = is_some (pushed_value c)

-- word: the numbers that some commands begin with, at most so many
unfoldable pub numbers_at_front : ℕ → List Command → List Fraction
numbers_at_front most commands = take most (filter_map pushed_value (take_while is_number commands))
