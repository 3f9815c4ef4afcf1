-- The operands of a command, and what is asked of them before the command's own rule.
use Rattle.std.specs.Prelude.{ℕ, ◌-◌, Bool, true, ◌&&◌, not, ◌==◌, if◌then◌else◌, List, [], ◌∷◌, length, take, drop, Option, Some, None}
use Rattle.std.specs.List.{list_any}
use Rattle.t1_frac.specs.Fraction.{Fraction}
use Rattle.t1_frac.specs.Limits.{exceeds}
use Rattle.t1_frac.specs.declared.fault.Code.{Code}
use Rattle.t1_frac.specs.declared.fault.Code.TheVariants.{F37, F48}
use Rattle.t1_code.specs.declared.command.Command.{Command}
use Rattle.t1_code.specs.declared.command.Command.TheVariants.{Num, HStem, VStem, VMoveTo, RLineTo, HLineTo, VLineTo, RRCurveTo, ClosePath, CallSubr, Return, DotSection, VStem3, HStem3, Seac, Sbw, Div, CallOtherSubr, Pop, SetCurrentPoint, Hsbw, EndChar, RMoveTo, HMoveTo, VHCurveTo, HVCurveTo}

-- profile: the n topmost values, the lowest first
abbrev pub topmost : ℕ → List Fraction → List Fraction
topmost n stack = drop (length stack - n) stack

-- profile: the values below the n topmost
abbrev pub below : ℕ → List Fraction → List Fraction
below n stack = take (length stack - n) stack

-- Type 1 Font Format, Chapter 6 (charstring command list): how many values a command takes from the top of the stack
abbrev pub takes : Command → ℕ
takes (Num n) = 0
takes HStem = 2
takes VStem = 2
takes VMoveTo = 1
takes RLineTo = 2
takes HLineTo = 1
takes VLineTo = 1
takes RRCurveTo = 6
takes ClosePath = 0
takes CallSubr = 1
takes Return = 0
takes DotSection = 0
takes VStem3 = 6
takes HStem3 = 6
takes Seac = 5
takes Sbw = 4
takes Div = 2
takes CallOtherSubr = 2
takes Pop = 0
takes SetCurrentPoint = 2
takes Hsbw = 2
takes EndChar = 0
takes RMoveTo = 2
takes HMoveTo = 1
takes VHCurveTo = 4
takes HVCurveTo = 4

-- profile: a whole number
abbrev pub is_whole : Fraction → Bool
is_whole a = a.den == 1

-- profile: F48 where a whole number is wanted, then F37 past 32000
abbrev pub operand_fault : Bool → Fraction → Option Code
operand_fault wanted_whole a =
    if wanted_whole && not (is_whole a) then Some F48 else (if exceeds 32000 a then Some F37 else None)

-- profile: F37 where one of these operands is past 32000
abbrev pub size_fault : List Fraction → Option Code
size_fault values = if list_any (exceeds 32000) values then Some F37 else None

-- profile: the first fault, else the second
abbrev pub fault_or : Option Code → Option Code → Option Code
fault_or (Some fault) next = Some fault
fault_or None next = next

-- profile: the first fault of a command's operands, from the lowest to the top; div and callothersubr look at theirs themselves
abbrev pub operand_faults : Command → List Fraction → Option Code
operand_faults Div values = None
operand_faults CallOtherSubr values = None
operand_faults CallSubr (n ∷ []) = operand_fault true n
operand_faults Seac (asb ∷ adx ∷ ady ∷ base ∷ accent ∷ []) =
    fault_or (size_fault (asb ∷ adx ∷ ady ∷ [])) (fault_or (operand_fault true base) (operand_fault true accent))
operand_faults _ values = size_fault values
