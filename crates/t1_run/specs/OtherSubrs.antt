-- callothersubr: flex, hint replacement and counter hints.
use Rattle.std.specs.Prelude.{ℕ, ◌+◌, Bool, true, false, ◌&&◌, ◌||◌, not, ◌==◌, nat_lt, nat_le, if◌then◌else◌, List, [], ◌∷◌, ◌++◌, length, take, Option, Some, None, ℤ, pos}
use Rattle.t1_frac.specs.Fraction.{Fraction}
use Rattle.t1_frac.specs.declared.fault.Code.TheVariants.{F30, F41, F42}
use Rattle.t1_run.specs.declared.outline.Point.{Point}
use Rattle.t1_run.specs.declared.outline.Segment.{Segment}
use Rattle.t1_run.specs.declared.outline.Segment.TheVariants.{Curve}
use Rattle.t1_run.specs.State.{State, Flex}
use Rattle.t1_run.specs.Operands.{topmost, below, operand_fault, size_fault}
use Rattle.t1_run.specs.Step.{Step, Next, Fault, refuse, unless_fault, with_stack}

-- Type 1 Font Format, Chapter 8, and its Supplement for 12 and 13: the othersubrs that are run, by number and count of arguments
abbrev pub is_supported : ℤ → ℤ → Bool
is_supported (pos number) (pos n) =
    (number == 0 && n == 3) || (number == 1 && n == 0) || (number == 2 && n == 0) || (number == 3 && n == 1)
    || ((number == 12 || number == 13) && nat_le n 22)
is_supported _ _ = false

-- Type 1 Font Format, Chapter 8 (flex): a flex starts at the current point
abbrev pub start_flex : Option Flex → State → Step
start_flex None s = Next (record s { flex = Some (record { before = s.current; recorded = [] }); results = [] })
start_flex (Some _) s = Fault F41

-- Type 1 Font Format, Chapter 8 (flex): the current point is recorded, seven at most
abbrev pub add_flex : Option Flex → State → Step
add_flex None s = Fault F41
add_flex (Some f) s =
    refuse (nat_le 7 (length f.recorded)) F41
    (Next (record s { flex = Some (record { before = f.before; recorded = f.recorded ++ s.current ∷ [] }); results = [] }))

-- Type 1 Font Format, Chapter 8 (flex): two curves through seven recorded points; the first of them is for reference alone
abbrev pub flex_curves : Point → List Point → Option (List Segment)
flex_curves before (reference ∷ p2 ∷ p3 ∷ p4 ∷ p5 ∷ p6 ∷ p7 ∷ []) = Some (Curve before p2 p3 p4 ∷ Curve p4 p5 p6 p7 ∷ [])
flex_curves _ _ = None

-- Type 1 Font Format, Chapter 8 (flex): the curves are drawn, and the end point's two coordinates are left for pop
abbrev pub draw_flex : Option (List Segment) → List Fraction → State → Step
draw_flex (Some curves) (height ∷ x ∷ y ∷ []) s = Next (record s { flex = None; segments = s.segments ++ curves; results = x ∷ y ∷ [] })
draw_flex _ _ s = Fault F41

-- Type 1 Font Format, Chapter 8 (flex): a flex that was started ends with its curves
abbrev pub end_flex : Option Flex → List Fraction → State → Step
end_flex None arguments s = Fault F41
end_flex (Some f) arguments s = draw_flex (flex_curves f.before f.recorded) arguments s

-- Type 1 Font Format, Chapter 8: the othersubr's effect, where its arguments have left the stack
abbrev pub other_effect : ℕ → List Fraction → State → Step
other_effect number arguments s =
    if number == 0 then end_flex s.flex arguments s
    else (if number == 1 then start_flex s.flex s
    else (if number == 2 then add_flex s.flex s
    else Next (record s { results = if number == 3 then arguments else [] })))

-- profile: F30 where arguments are missing, F37 where one is too large, then the effect
abbrev pub other_with : ℕ → ℕ → State → Step
other_with number n s =
    refuse (nat_lt (length s.stack) (2 + n)) F30
    (unless_fault (size_fault (take n (topmost (2 + n) s.stack)))
    (other_effect number (take n (topmost (2 + n) s.stack)) (with_stack (below (2 + n) s.stack) s)))

-- profile: F42 where the number or the count is below 0
abbrev pub other_at : ℤ → ℤ → State → Step
other_at (pos number) (pos n) s = other_with number n s
other_at _ _ s = Fault F42

-- profile: the number on the top is tried first, then the count below it, then whether they belong together
abbrev pub other_subr : Fraction → Fraction → State → Step
other_subr n number s =
    unless_fault (operand_fault true number)
    (unless_fault (operand_fault true n)
    (refuse (not (is_supported number.num n.num)) F42
    (other_at number.num n.num s)))
