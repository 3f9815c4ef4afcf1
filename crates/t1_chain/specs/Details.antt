-- What a fault says beside its code, by the run before the word that has it.
use Rattle.std.specs.Prelude.{ℕ, ◌+◌, ◌-◌, ◌==◌, if◌then◌else◌, List, [], ◌∷◌, length, Option, Some, None, is_none}
use Rattle.std.specs.Int.RustNames.{unsigned_abs}
use Rattle.std.specs.List.{find, slice_get}
use Rattle.std.specs.Option.{option_or}
use Rattle.t1_frac.specs.Fraction.{Fraction, lowest, over}
use Rattle.t1_frac.specs.Limits.{exceeds}
use Rattle.t1_frac.specs.declared.fault.Code.{Code}
use Rattle.t1_frac.specs.declared.fault.Code.TheVariants.{F30, F32, F37, F41, F42, F44, F45}
use Rattle.t1_code.specs.declared.command.Command.{Command}
use Rattle.t1_code.specs.declared.command.Command.TheVariants.{Div, CallOtherSubr}
use Rattle.t1_run.specs.Operands.{topmost, takes}
use Rattle.t1_run.specs.State.{Flex}
use Rattle.t1_run.specs.Run.{standard_glyph}
use Rattle.t1_chain.specs.declared.failure.Detail.{Detail}
use Rattle.t1_chain.specs.declared.failure.Detail.TheVariants.{Nothing, Number, Quotient, Glyph, Values, Points}

-- profile, faults: the number, where there is one
abbrev pub number_detail : Option Fraction → Detail
number_detail None = Nothing
number_detail (Some a) = Number a

-- Type 1 Font Format, Chapter 6 (callsubr, callothersubr): the number on the top of the stack
abbrev pub top_of : List Fraction → Option Fraction
top_of stack = slice_get stack (length stack - 1)

-- profile, faults: both of two values
abbrev pub both_of : List Fraction → Option (Fraction × Fraction)
both_of (a ∷ b ∷ []) = Some (a, b)
both_of _ = None

-- Type 1 Font Format, Chapter 6 (callothersubr): so many arguments, by their count and the number above it
abbrev pub arguments_by : Option (Fraction × Fraction) → ℕ
arguments_by None = 0
arguments_by (Some (count, number)) = unsigned_abs count.num

-- Type 1 Font Format, Chapter 6 (charstring command list): how many values a command wants, of callothersubr with its arguments
abbrev pub wanted : Command → List Fraction → ℕ
wanted CallOtherSubr stack = 2 + arguments_by (both_of (topmost 2 stack))
wanted c stack = takes c

-- profile, limits: the first operand past 32000
abbrev pub large_in : List Fraction → Option Fraction
large_in operands = find (exceeds 32000) operands

-- profile, order of faults: the number of an othersubr past 32000, else the count of its arguments
abbrev pub large_above : Option (Fraction × Fraction) → Option Fraction
large_above None = None
large_above (Some (count, number)) = large_in (number ∷ count ∷ [])

-- profile, order of faults: the first operand past 32000 of a command
abbrev pub too_large : Command → List Fraction → Option Fraction
too_large CallOtherSubr stack =
    option_or (large_above (both_of (topmost 2 stack))) (large_in (topmost (wanted CallOtherSubr stack) stack))
too_large c stack = large_in (topmost (takes c) stack)

-- profile, fractions: a quotient of whatever size
abbrev pub quotient_told : Fraction → Detail
quotient_told q = Quotient q.num q.den

-- Type 1 Font Format, Chapter 6 (div): the quotient of two values, in lowest terms; none by 0
abbrev pub quotient_of : Option (Fraction × Fraction) → Detail
quotient_of None = Nothing
quotient_of (Some (a, b)) = if unsigned_abs b.num == 0 then Nothing else quotient_told (lowest (over a b))

-- profile, limits: what of a command is too large: an operand past 32000; of div, whose operands have no limit, the quotient
abbrev pub large_told : Command → List Fraction → Detail
large_told Div stack = quotient_of (both_of (topmost 2 stack))
large_told c stack = number_detail (too_large c stack)

-- Type 1 Font Format, Chapter 6 (seac): the code of the base, or of the accent, that has no name
abbrev pub unnamed : Option (Fraction × Fraction) → Detail
unnamed None = Nothing
unnamed (Some (base, accent)) = Number (if is_none (standard_glyph base.num) then base else accent)

-- profile, faults: the base, or the accent, that the font lacks
abbrev pub lacking : (List ℕ → Option (List Command)) → Option (List ℕ) → Option (List ℕ) → Detail
lacking glyphs (Some base) (Some accent) = Glyph (if is_none (glyphs base) then base else accent)
lacking glyphs _ _ = Nothing

-- Type 1 Font Format, Chapter 6 (seac): the same by their codes
abbrev pub missing : (List ℕ → Option (List Command)) → Option (Fraction × Fraction) → Detail
missing glyphs None = Nothing
missing glyphs (Some (base, accent)) = lacking glyphs (standard_glyph base.num) (standard_glyph accent.num)

-- Type 1 Font Format, Chapter 8 (flex): how many points the open flex has recorded; none where no flex is open
abbrev pub recorded_in : Option Flex → Option ℕ
recorded_in None = None
recorded_in (Some flex) = Some (length flex.recorded)

-- profile, faults: these points, where a flex is open
abbrev pub points_told : Option ℕ → Detail
points_told None = Nothing
points_told (Some n) = Points n

-- profile, faults: what a fault of a command says, by the glyphs of the font, the stack before the command and the points of a flex
unfoldable pub detail_of : (List ℕ → Option (List Command)) → Code → Command → List Fraction → Option ℕ → Detail
detail_of glyphs F30 c stack points = Values (length stack) (wanted c stack)
detail_of glyphs F32 c stack points = number_detail (top_of stack)
detail_of glyphs F37 c stack points = large_told c stack
detail_of glyphs F41 c stack points = points_told points
detail_of glyphs F42 c stack points = number_detail (top_of stack)
detail_of glyphs F44 c stack points = unnamed (both_of (topmost 2 stack))
detail_of glyphs F45 c stack points = missing glyphs (both_of (topmost 2 stack))
detail_of glyphs code c stack points = Nothing
