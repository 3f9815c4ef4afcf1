-- One word of a charstring: the order of its tests, and each command's own rule.
use Rattle.std.specs.Prelude.{◌+◌, Bool, true, false, ◌&&◌, ◌||◌, not, nat_lt, nat_le, List, length, is_some}
use Rattle.t1_frac.specs.Fraction.{Fraction, whole}
use Rattle.t1_frac.specs.declared.fault.Code.TheVariants.{F30, F36, F41, F47}
use Rattle.t1_code.specs.declared.command.Command.{Command}
use Rattle.t1_code.specs.declared.command.Command.TheVariants.{Num, HStem, VStem, VMoveTo, RLineTo, HLineTo, VLineTo, RRCurveTo, ClosePath, CallSubr, Return, DotSection, VStem3, HStem3, Seac, Sbw, Div, CallOtherSubr, Pop, SetCurrentPoint, Hsbw, EndChar, RMoveTo, HMoveTo, VHCurveTo, HVCurveTo}
use Rattle.t1_run.specs.State.{State}
use Rattle.t1_run.specs.Operands.{topmost, below, takes, operand_faults}
use Rattle.t1_run.specs.OtherSubrs.{other_subr}
use Rattle.t1_run.specs.Step.{Step, Next, Back, End, Compose, refuse, unless_fault, with_one, with_two, with_four, with_five, with_six, with_stack, cleared, at_point, push, zero_fraction, move_by, line_by, curve_by, set_metric, divide, call, pop_result}

-- Type 1 Font Format, Chapter 6: the commands that draw lines and curves
abbrev pub draws : Command → Bool
draws RLineTo = true
draws HLineTo = true
draws VLineTo = true
draws RRCurveTo = true
draws VHCurveTo = true
draws HVCurveTo = true
draws _ = false

-- profile: lines, curves and the ends of a glyph are refused while a flex is open
abbrev pub draws_or_ends : Command → Bool
draws_or_ends Seac = true
draws_or_ends EndChar = true
draws_or_ends c = draws c

-- Type 1 Font Format, Chapter 6 (hsbw): the side bearing comes before what is drawn
abbrev pub needs_bearing : Command → Bool
needs_bearing ClosePath = true
needs_bearing RMoveTo = true
needs_bearing HMoveTo = true
needs_bearing VMoveTo = true
needs_bearing c = draws_or_ends c

-- Type 1 Font Format, Chapter 6 (hsbw, sbw): the commands that set the side bearing
abbrev pub sets_bearing : Command → Bool
sets_bearing Hsbw = true
sets_bearing Sbw = true
sets_bearing _ = false

-- profile: the side bearing is missing, or it is set already
abbrev pub breaks_bearing : Command → State → Bool
breaks_bearing c s = (needs_bearing c && not (is_some s.metric)) || (sets_bearing c && is_some s.metric)

-- profile: a flex is open
abbrev pub breaks_flex : Command → State → Bool
breaks_flex c s = draws_or_ends c && is_some s.flex

-- Type 1 Font Format, Chapter 6 (charstring command list): what each command does with its operands
abbrev pub rule : Command → List Fraction → State → Step
rule (Num n) values s = push (whole n) s
rule HStem values s = Next (cleared s)
rule VStem values s = Next (cleared s)
rule VMoveTo values s = with_one values (λ dy. move_by zero_fraction dy s)
rule RLineTo values s = with_two values (λ dx dy. line_by dx dy s)
rule HLineTo values s = with_one values (λ dx. line_by dx zero_fraction s)
rule VLineTo values s = with_one values (λ dy. line_by zero_fraction dy s)
rule RRCurveTo values s = with_six values (λ dx1 dy1 dx2 dy2 dx3 dy3. curve_by dx1 dy1 dx2 dy2 dx3 dy3 s)
rule ClosePath values s = Next (cleared s)
rule CallSubr values s = with_one values (λ n. call n.num (with_stack (below 1 s.stack) s))
rule Return values s = Back s
rule DotSection values s = Next (cleared s)
rule VStem3 values s = Next (cleared s)
rule HStem3 values s = Next (cleared s)
rule Seac values s =
    with_five values (λ asb adx ady base accent.
    Compose (record { asb = asb; adx = adx; ady = ady; base = base.num; accent = accent.num }) (cleared s))
rule Sbw values s = with_four values (λ sbx sby wx wy. set_metric sbx sby wx wy s)
rule Div values s = with_two values (λ a b. divide a b s)
rule CallOtherSubr values s = with_two values (λ n number. other_subr n number s)
rule Pop values s = pop_result s.results s
rule SetCurrentPoint values s = with_two values (λ x y. Next (cleared (at_point (record { x = x; y = y }) s)))
rule Hsbw values s = with_two values (λ sbx wx. set_metric sbx zero_fraction wx zero_fraction s)
rule EndChar values s = End (cleared s)
rule RMoveTo values s = with_two values (λ dx dy. move_by dx dy s)
rule HMoveTo values s = with_one values (λ dx. move_by dx zero_fraction s)
rule VHCurveTo values s = with_four values (λ dy1 dx2 dy2 dx3. curve_by zero_fraction dy1 dx2 dy2 dx3 zero_fraction s)
rule HVCurveTo values s = with_four values (λ dx1 dx2 dy2 dy3. curve_by dx1 zero_fraction dx2 dy2 zero_fraction dy3 s)

-- profile, order of faults: operands enough, the side bearing, the operands, the flex, then the command's own rule
abbrev pub execute : Command → State → Step
execute c s =
    refuse (nat_lt (length s.stack) (takes c)) F30
    (refuse (breaks_bearing c s) F36
    (unless_fault (operand_faults c (topmost (takes c) s.stack))
    (refuse (breaks_flex c s) F41
    (rule c (topmost (takes c) s.stack) s))))

-- profile, limits: each word is a step, of which a run has 100,000
abbrev pub step : Command → State → Step
step c s = refuse (nat_le 100000 s.steps) F47 (execute c (record s { steps = s.steps + 1 }))
