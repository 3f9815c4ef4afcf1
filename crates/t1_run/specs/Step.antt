-- What a word does to the state, and the steps that several commands share.
use Rattle.std.specs.Prelude.{ℕ, Bool, if◌then◌else◌, List, [], ◌∷◌, ◌++◌, Option, Some, None, Result, Ok, Err, ℤ, pos, negsuc, nat_le, length}
use Rattle.t1_frac.specs.Fraction.{Fraction, whole}
use Rattle.t1_frac.specs.Limits.{coordinate_sum, quotient}
use Rattle.t1_frac.specs.Outcome.{◌>>=◌}
use Rattle.t1_frac.specs.declared.fault.Code.{Code}
use Rattle.t1_frac.specs.declared.fault.Code.TheVariants.{F30, F31, F32, F43}
use Rattle.t1_run.specs.declared.outline.Point.{Point}
use Rattle.t1_run.specs.declared.outline.Segment.TheVariants.{Line, Curve}
use Rattle.t1_run.specs.declared.outline.Accent.{Accent}
use Rattle.t1_run.specs.State.{State}
use Rattle.t1_run.specs.Operands.{below}

-- profile: a word leaves the next state, calls a Subr, goes back, ends the glyph, ends it as a composite, or is refused
pub data Step : Type 0 where
  Next : State → Step
  Call : ℕ → State → Step
  Back : State → Step
  End : State → Step
  Compose : Accent → State → Step
  Fault : Code → Step

-- profile: the fault where the test holds, else what comes next
abbrev pub refuse : Bool → Code → Step → Step
refuse test fault next = if test then Fault fault else next

-- profile: the step that comes next, where there is no fault before it
abbrev pub unless_fault : Option Code → Step → Step
unless_fault None next = next
unless_fault (Some fault) next = Fault fault

-- profile: the step with the value, or the fault in its place
abbrev pub attempt : {A : Type 0} → Result A Code → (A → Step) → Step
attempt (Ok value) next = next value
attempt (Err fault) next = Fault fault

-- ---- so many operands, the lowest first

-- profile: the only operand, or F30
abbrev pub with_one : List Fraction → (Fraction → Step) → Step
with_one (a ∷ []) next = next a
with_one _ next = Fault F30

-- profile: the only two operands, or F30
abbrev pub with_two : List Fraction → (Fraction → Fraction → Step) → Step
with_two (a ∷ b ∷ []) next = next a b
with_two _ next = Fault F30

-- profile: the only four operands, or F30
abbrev pub with_four : List Fraction → (Fraction → Fraction → Fraction → Fraction → Step) → Step
with_four (a ∷ b ∷ c ∷ d ∷ []) next = next a b c d
with_four _ next = Fault F30

-- profile: the only five operands, or F30
abbrev pub with_five : List Fraction → (Fraction → Fraction → Fraction → Fraction → Fraction → Step) → Step
with_five (a ∷ b ∷ c ∷ d ∷ e ∷ []) next = next a b c d e
with_five _ next = Fault F30

-- profile: the only six operands, or F30
abbrev pub with_six : List Fraction → (Fraction → Fraction → Fraction → Fraction → Fraction → Fraction → Step) → Step
with_six (a ∷ b ∷ c ∷ d ∷ e ∷ f ∷ []) next = next a b c d e f
with_six _ next = Fault F30

-- ---- changes of the state

-- profile: the state with these values on its stack
abbrev pub with_stack : List Fraction → State → State
with_stack values s = record s { stack = values }

-- profile: the state with an empty stack
abbrev pub cleared : State → State
cleared s = record s { stack = [] }

-- profile: the state with this current point
abbrev pub at_point : Point → State → State
at_point p s = record s { current = p }

-- profile, limits: the stack holds 24 values
abbrev pub push : Fraction → State → Step
push a s = refuse (nat_le 24 (length s.stack)) F31 (Next (with_stack (s.stack ++ a ∷ []) s))

-- ---- points and segments

-- profile: the number 0
abbrev pub zero_fraction : Fraction
zero_fraction = whole (pos 0)

-- Type 1 Font Format, Chapter 6: a point by its distance from another, x before y
abbrev pub moved : Point → Fraction → Fraction → Result Point Code
moved p dx dy = coordinate_sum p.x dx >>= (λ x. coordinate_sum p.y dy >>= (λ y. Ok (record { x = x; y = y })))

-- Type 1 Font Format, Chapter 6 (rmoveto): the current point moves, and nothing is drawn
abbrev pub move_by : Fraction → Fraction → State → Step
move_by dx dy s = attempt (moved s.current dx dy) (λ p. Next (cleared (at_point p s)))

-- Type 1 Font Format, Chapter 6 (rlineto): a line from the current point
abbrev pub line_by : Fraction → Fraction → State → Step
line_by dx dy s =
    attempt (moved s.current dx dy) (λ p.
    Next (cleared (record s { current = p; segments = s.segments ++ Line s.current p ∷ [] })))

-- Type 1 Font Format, Chapter 6 (rrcurveto): a curve from the current point, each further point by its distance from the one before
abbrev pub curve_by : Fraction → Fraction → Fraction → Fraction → Fraction → Fraction → State → Step
curve_by dx1 dy1 dx2 dy2 dx3 dy3 s =
    attempt (moved s.current dx1 dy1) (λ p1.
    attempt (moved p1 dx2 dy2) (λ p2.
    attempt (moved p2 dx3 dy3) (λ p3.
    Next (cleared (record s { current = p3; segments = s.segments ++ Curve s.current p1 p2 p3 ∷ [] })))))

-- ---- metrics, numbers, Subrs

-- Type 1 Font Format, Chapter 6 (sbw): the side bearing, which is the current point too, and the width
abbrev pub set_metric : Fraction → Fraction → Fraction → Fraction → State → Step
set_metric sbx sby wx wy s =
    Next (cleared (record s {
      metric = Some (record { bearing = record { x = sbx; y = sby }; width = record { x = wx; y = wy } });
      current = record { x = sbx; y = sby };
    }))

-- Type 1 Font Format, Chapter 6 (div): the quotient replaces both
abbrev pub divide : Fraction → Fraction → State → Step
divide a b s = attempt (quotient a b) (λ q. Next (with_stack (below 2 s.stack ++ q ∷ []) s))

-- Type 1 Font Format, Chapter 6 (callsubr): no Subr has a negative number
abbrev pub call : ℤ → State → Step
call (pos n) s = Call n s
call (negsuc n) s = Fault F32

-- Type 1 Font Format, Chapter 6 (pop): the next result is pushed
abbrev pub pop_result : List Fraction → State → Step
pop_result [] s = Fault F43
pop_result (a ∷ rest) s = push a (record s { results = rest })
