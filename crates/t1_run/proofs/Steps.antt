-- A word keeps the Subrs entered and the count of steps, but for its own step, and answers F47 by that count alone.
use Rattle.std.proofs.Common.{◌≡◌, ℕ, ◌+◌, ◌<◌, ◌≤◌, Bool, true, false, List, [], ◌∷◌, length, take, refl, subst, inl, inr, ◌^◌, arith, Option, Some, None, ℤ, pos, negsuc}
use Rattle.std.specs.Prelude.{Result, Ok, Err, nat_le, nat_lt, not, ◌&&◌, ◌==◌, if◌then◌else◌, ◌↔◌}
use Rattle.std.specs.List.{list_any}
use Rattle.std.specs.Int.RustNames.{unsigned_abs}
use Rattle.std.proofs.lemmas.Bool.{cases_Bool}
use Rattle.std.proofs.lemmas.Bool.Decides.{nat_tests}
use Rattle.t1_frac.specs.Fraction.{Fraction, lowest, plus, over}
use Rattle.t1_frac.specs.Limits.{within, exceeds, is_too_fine, coordinate_sum, quotient}
use Rattle.t1_frac.specs.Outcome.{◌>>=◌}
use Rattle.t1_frac.specs.declared.fault.Code.{Code}
use Rattle.t1_frac.specs.declared.fault.Code.TheVariants.{F30, F31, F36, F37, F38, F39, F40, F41, F42, F47, F48}
use Rattle.t1_code.specs.declared.command.Command.{Command}
use Rattle.t1_code.specs.declared.command.Command.TheVariants.{Num, HStem, VStem, VMoveTo, RLineTo, HLineTo, VLineTo, RRCurveTo, ClosePath, CallSubr, Return, DotSection, VStem3, HStem3, Seac, Sbw, Div, CallOtherSubr, Pop, SetCurrentPoint, Hsbw, EndChar, RMoveTo, HMoveTo, VHCurveTo, HVCurveTo}
use Rattle.t1_run.specs.declared.outline.Point.{Point}
use Rattle.t1_run.specs.declared.outline.Segment.{Segment}
use Rattle.t1_run.specs.Footprint.{Leaves}
use Rattle.t1_run.specs.Operands.{topmost, below, takes, is_whole, operand_fault, operand_faults, size_fault, fault_or}
use Rattle.t1_run.specs.OtherSubrs.{is_supported, flex_curves, draw_flex, end_flex, start_flex, add_flex, other_effect, other_with, other_at, other_subr}
use Rattle.t1_run.specs.State.{State, Flex}
use Rattle.t1_run.specs.Step.{Step, Next, Call, Back, End, Compose, Fault, refuse, unless_fault, attempt, with_one, with_two, with_four, with_five, with_six, with_stack, push, moved, move_by, line_by, curve_by, divide, call, pop_result}
use Rattle.t1_run.specs.Words.{rule, execute, step, breaks_bearing, breaks_flex}

pub record Keeps (s t : State) : Type 0 where
  pub entered : t.entered ≡ s.entered
  pub steps : t.steps ≡ s.steps

-- the fault is another than F47
abbrev pub Other : Code → Type 0
Other fault = fault ≡ F47 → ⊥

-- each state that the step leaves keeps what this one has, and its fault isn't F47
abbrev pub Holds : State → Step → Type 0
Holds s (Next t) = Keeps s t
Holds s (Call n t) = Keeps s t
Holds s (Back t) = Keeps s t
Holds s (End t) = Keeps s t
Holds s (Compose a t) = Keeps s t
Holds s (Fault fault) = Other fault

-- ---- steps that are made of others

refuse-holds : (s : State) (test : Bool) (fault : Code) (next : Step) → Other fault → Holds s next → Holds s (refuse test fault next)
refuse-holds s true fault next other h = other
refuse-holds s false fault next other h = h

abbrev OtherIn : Option Code → Type 0
OtherIn None = Unit {0}
OtherIn (Some fault) = Other fault

unless-holds : (s : State) (fault : Option Code) (next : Step) → OtherIn fault → Holds s next → Holds s (unless_fault fault next)
unless-holds s None next other h = h
unless-holds s (Some fault) next other h = other

abbrev Fine : {A : Type 0} → Result A Code → Type 0
Fine (Ok value) = Unit {0}
Fine (Err fault) = Other fault

attempt-holds : {A : Type 0} (s : State) (r : Result A Code) (next : A → Step) → Fine r → ((x : A) → Holds s (next x)) → Holds s (attempt r next)
attempt-holds s (Ok value) next fine h = h value
attempt-holds s (Err fault) next fine h = fine

with_one-holds : (s : State) (values : List Fraction) (next : Fraction → Step) → ((a : Fraction) → Holds s (next a)) → Holds s (with_one values next)
with_one-holds s [] next h = λ e. cc
with_one-holds s (a ∷ []) next h = h a
with_one-holds s (a ∷ b ∷ rest) next h = λ e. cc

with_two-holds : (s : State) (values : List Fraction) (next : Fraction → Fraction → Step)
    → ((a b : Fraction) → Holds s (next a b)) → Holds s (with_two values next)
with_two-holds s [] next h = λ e. cc
with_two-holds s (a ∷ []) next h = λ e. cc
with_two-holds s (a ∷ b ∷ []) next h = h a b
with_two-holds s (a ∷ b ∷ c ∷ rest) next h = λ e. cc

with_four-holds : (s : State) (values : List Fraction) (next : Fraction → Fraction → Fraction → Fraction → Step)
    → ((a b c d : Fraction) → Holds s (next a b c d)) → Holds s (with_four values next)
with_four-holds s [] next h = λ e. cc
with_four-holds s (a ∷ []) next h = λ e. cc
with_four-holds s (a ∷ b ∷ []) next h = λ e. cc
with_four-holds s (a ∷ b ∷ c ∷ []) next h = λ e. cc
with_four-holds s (a ∷ b ∷ c ∷ d ∷ []) next h = h a b c d
with_four-holds s (a ∷ b ∷ c ∷ d ∷ f ∷ rest) next h = λ e. cc

with_five-holds : (s : State) (values : List Fraction) (next : Fraction → Fraction → Fraction → Fraction → Fraction → Step)
    → ((a b c d f : Fraction) → Holds s (next a b c d f)) → Holds s (with_five values next)
with_five-holds s [] next h = λ e. cc
with_five-holds s (a ∷ []) next h = λ e. cc
with_five-holds s (a ∷ b ∷ []) next h = λ e. cc
with_five-holds s (a ∷ b ∷ c ∷ []) next h = λ e. cc
with_five-holds s (a ∷ b ∷ c ∷ d ∷ []) next h = λ e. cc
with_five-holds s (a ∷ b ∷ c ∷ d ∷ f ∷ []) next h = h a b c d f
with_five-holds s (a ∷ b ∷ c ∷ d ∷ f ∷ g ∷ rest) next h = λ e. cc

with_six-holds : (s : State) (values : List Fraction) (next : Fraction → Fraction → Fraction → Fraction → Fraction → Fraction → Step)
    → ((a b c d f g : Fraction) → Holds s (next a b c d f g)) → Holds s (with_six values next)
with_six-holds s [] next h = λ e. cc
with_six-holds s (a ∷ []) next h = λ e. cc
with_six-holds s (a ∷ b ∷ []) next h = λ e. cc
with_six-holds s (a ∷ b ∷ c ∷ []) next h = λ e. cc
with_six-holds s (a ∷ b ∷ c ∷ d ∷ []) next h = λ e. cc
with_six-holds s (a ∷ b ∷ c ∷ d ∷ f ∷ []) next h = λ e. cc
with_six-holds s (a ∷ b ∷ c ∷ d ∷ f ∷ g ∷ []) next h = h a b c d f g
with_six-holds s (a ∷ b ∷ c ∷ d ∷ f ∷ g ∷ i ∷ rest) next h = λ e. cc

-- ---- fractions

within-fine : (fault : Code) (limit : ℕ) (a : Fraction) → Other fault → Fine (within fault limit a)
within-fine fault limit a other = elim (exceeds limit a) as (λ t. Fine (if t then Err fault else (if is_too_fine a then Err F39 else Ok a))) [
  | true ↦ other
  | false ↦ elim (is_too_fine a) as (λ t. Fine (if t then Err F39 else Ok a)) [ true ↦ λ e. cc | false ↦ tt ]
]

sum-fine : (a b : Fraction) → Fine (coordinate_sum a b)
unfolding coordinate_sum
sum-fine a b = within-fine F40 (2 ^ 20) (lowest (plus a b)) (λ e. cc)

moved-fine : (p : Point) (dx dy : Fraction) → Fine (moved p dx dy)
moved-fine p dx dy = bind-fine (coordinate_sum p.x dx) _ (sum-fine p.x dx) (λ x. bind-fine (coordinate_sum p.y dy) _ (sum-fine p.y dy) (λ y. tt)) where
  bind-fine : {A B : Type 0} (r : Result A Code) (next : A → Result B Code) → Fine r → ((x : A) → Fine (next x)) → Fine (r >>= next)
  bind-fine (Ok x) next fine h = h x
  bind-fine (Err fault) next fine h = fine

quotient-fine : (a b : Fraction) → Fine (quotient a b)
unfolding quotient
quotient-fine a b = if-fine (unsigned_abs b.num == 0) (Err F38) (within F37 (2 ^ 31) (lowest (over a b))) (λ e. cc) (within-fine F37 (2 ^ 31) (lowest (over a b)) (λ e. cc)) where
  if-fine : (test : Bool) (x y : Result Fraction Code) → Fine x → Fine y → Fine (if test then x else y)
  if-fine true x y f g = f
  if-fine false x y f g = g

-- ---- operands

if-other : (test : Bool) (x y : Option Code) → OtherIn x → OtherIn y → OtherIn (if test then x else y)
if-other true x y f g = f
if-other false x y f g = g

operand-other : (wanted : Bool) (a : Fraction) → OtherIn (operand_fault wanted a)
operand-other wanted a =
    if-other (wanted && not (is_whole a)) (Some F48) (if exceeds 32000 a then Some F37 else None) (λ e. cc)
    (if-other (exceeds 32000 a) (Some F37) None (λ e. cc) tt)

size-other : (values : List Fraction) → OtherIn (size_fault values)
size-other values = if-other (list_any (exceeds 32000) values) (Some F37) None (λ e. cc) tt

or-other : (first second : Option Code) → OtherIn first → OtherIn second → OtherIn (fault_or first second)
or-other None second f g = g
or-other (Some fault) second f g = f

operands-other : (c : Command) (values : List Fraction) → OtherIn (operand_faults c values)
operands-other Div values = tt
operands-other CallOtherSubr values = tt
operands-other CallSubr [] = size-other []
operands-other CallSubr (n ∷ []) = operand-other true n
operands-other CallSubr (n ∷ a ∷ rest) = size-other (n ∷ a ∷ rest)
operands-other Seac (asb ∷ adx ∷ ady ∷ base ∷ accent ∷ []) =
    or-other _ _ (size-other (asb ∷ adx ∷ ady ∷ [])) (or-other _ _ (operand-other true base) (operand-other true accent))
operands-other Seac [] = size-other []
operands-other Seac (a ∷ []) = size-other (a ∷ [])
operands-other Seac (a ∷ b ∷ []) = size-other (a ∷ b ∷ [])
operands-other Seac (a ∷ b ∷ c ∷ []) = size-other (a ∷ b ∷ c ∷ [])
operands-other Seac (a ∷ b ∷ c ∷ d ∷ []) = size-other (a ∷ b ∷ c ∷ d ∷ [])
operands-other Seac (a ∷ b ∷ c ∷ d ∷ f ∷ g ∷ rest) = size-other (a ∷ b ∷ c ∷ d ∷ f ∷ g ∷ rest)
operands-other _ values = size-other values

-- ---- the commands' rules

push-holds : (s t : State) (a : Fraction) → Keeps s t → Holds s (push a t)
push-holds s t a h = refuse-holds s (nat_le 24 (length t.stack)) F31 _ (λ e. cc) (record { entered = h.entered; steps = h.steps })

move-holds : (s : State) (dx dy : Fraction) → Holds s (move_by dx dy s)
move-holds s dx dy = attempt-holds s (moved s.current dx dy) _ (moved-fine s.current dx dy) (λ p. record { entered = refl; steps = refl })

line-holds : (s : State) (dx dy : Fraction) → Holds s (line_by dx dy s)
line-holds s dx dy = attempt-holds s (moved s.current dx dy) _ (moved-fine s.current dx dy) (λ p. record { entered = refl; steps = refl })

curve-holds : (s : State) (a b c d f g : Fraction) → Holds s (curve_by a b c d f g s)
curve-holds s a b c d f g =
    attempt-holds s (moved s.current a b) _ (moved-fine s.current a b) (λ p1.
    attempt-holds s (moved p1 c d) _ (moved-fine p1 c d) (λ p2.
    attempt-holds s (moved p2 f g) _ (moved-fine p2 f g) (λ p3. record { entered = refl; steps = refl })))

divide-holds : (s : State) (a b : Fraction) → Holds s (divide a b s)
divide-holds s a b = attempt-holds s (quotient a b) _ (quotient-fine a b) (λ q. record { entered = refl; steps = refl })

call-holds : (s t : State) (n : ℤ) → Keeps s t → Holds s (call n t)
call-holds s t (pos n) h = h
call-holds s t (negsuc n) h = λ e. cc

pop-holds : (s : State) (results : List Fraction) → Holds s (pop_result results s)
pop-holds s [] = λ e. cc
pop-holds s (a ∷ rest) = push-holds s (record s { results = rest }) a (record { entered = refl; steps = refl })

-- ---- callothersubr

draw_flex-holds : (s t : State) (curves : Option (List Segment)) (arguments : List Fraction) → Keeps s t → Holds s (draw_flex curves arguments t)
draw_flex-holds s t None arguments h = λ e. cc
draw_flex-holds s t (Some curves) [] h = λ e. cc
draw_flex-holds s t (Some curves) (a ∷ []) h = λ e. cc
draw_flex-holds s t (Some curves) (a ∷ b ∷ []) h = λ e. cc
draw_flex-holds s t (Some curves) (a ∷ b ∷ c ∷ []) h = record { entered = h.entered; steps = h.steps }
draw_flex-holds s t (Some curves) (a ∷ b ∷ c ∷ d ∷ rest) h = λ e. cc

end_flex-holds : (s t : State) (flex : Option Flex) (arguments : List Fraction) → Keeps s t → Holds s (end_flex flex arguments t)
end_flex-holds s t None arguments h = λ e. cc
end_flex-holds s t (Some f) arguments h = draw_flex-holds s t (flex_curves f.before f.recorded) arguments h

start_flex-holds : (s t : State) (flex : Option Flex) → Keeps s t → Holds s (start_flex flex t)
start_flex-holds s t None h = record { entered = h.entered; steps = h.steps }
start_flex-holds s t (Some f) h = λ e. cc

add_flex-holds : (s t : State) (flex : Option Flex) → Keeps s t → Holds s (add_flex flex t)
add_flex-holds s t None h = λ e. cc
add_flex-holds s t (Some f) h = refuse-holds s (nat_le 7 (length f.recorded)) F41 _ (λ e. cc) (record { entered = h.entered; steps = h.steps })

if-holds : (s : State) (test : Bool) (x y : Step) → Holds s x → Holds s y → Holds s (if test then x else y)
if-holds s true x y f g = f
if-holds s false x y f g = g

effect-holds : (s t : State) (number : ℕ) (arguments : List Fraction) → Keeps s t → Holds s (other_effect number arguments t)
effect-holds s t number arguments h =
    if-holds s (number == 0) _ _ (end_flex-holds s t t.flex arguments h)
    (if-holds s (number == 1) _ _ (start_flex-holds s t t.flex h)
    (if-holds s (number == 2) _ _ (add_flex-holds s t t.flex h) (record { entered = h.entered; steps = h.steps })))

with-holds : (s : State) (number n : ℕ) → Holds s (other_with number n s)
with-holds s number n =
    refuse-holds s (nat_lt (length s.stack) (2 + n)) F30 _ (λ e. cc)
    (unless-holds s (size_fault (take n (topmost (2 + n) s.stack))) _ (size-other (take n (topmost (2 + n) s.stack)))
    (effect-holds s (with_stack (below (2 + n) s.stack) s) number (take n (topmost (2 + n) s.stack)) (record { entered = refl; steps = refl })))

at-holds : (s : State) (number n : ℤ) → Holds s (other_at number n s)
at-holds s (pos number) (pos n) = with-holds s number n
at-holds s (pos number) (negsuc n) = λ e. cc
at-holds s (negsuc number) n = λ e. cc

other-holds : (s : State) (n number : Fraction) → Holds s (other_subr n number s)
other-holds s n number =
    unless-holds s (operand_fault true number) _ (operand-other true number)
    (unless-holds s (operand_fault true n) _ (operand-other true n)
    (refuse-holds s (not (is_supported number.num n.num)) F42 _ (λ e. cc) (at-holds s number.num n.num)))

-- ---- each command

rule-holds : (c : Command) (values : List Fraction) (s : State) → Holds s (rule c values s)
rule-holds (Num n) values s = push-holds s s _ (record { entered = refl; steps = refl })
rule-holds HStem values s = record { entered = refl; steps = refl }
rule-holds VStem values s = record { entered = refl; steps = refl }
rule-holds VMoveTo values s = with_one-holds s values _ (λ dy. move-holds s _ dy)
rule-holds RLineTo values s = with_two-holds s values _ (λ dx dy. line-holds s dx dy)
rule-holds HLineTo values s = with_one-holds s values _ (λ dx. line-holds s dx _)
rule-holds VLineTo values s = with_one-holds s values _ (λ dy. line-holds s _ dy)
rule-holds RRCurveTo values s = with_six-holds s values _ (λ a b c d f g. curve-holds s a b c d f g)
rule-holds ClosePath values s = record { entered = refl; steps = refl }
rule-holds CallSubr values s = with_one-holds s values _ (λ n. call-holds s _ n.num (record { entered = refl; steps = refl }))
rule-holds Return values s = record { entered = refl; steps = refl }
rule-holds DotSection values s = record { entered = refl; steps = refl }
rule-holds VStem3 values s = record { entered = refl; steps = refl }
rule-holds HStem3 values s = record { entered = refl; steps = refl }
rule-holds Seac values s = with_five-holds s values _ (λ asb adx ady base accent. record { entered = refl; steps = refl })
rule-holds Sbw values s = with_four-holds s values _ (λ sbx sby wx wy. record { entered = refl; steps = refl })
rule-holds Div values s = with_two-holds s values _ (λ a b. divide-holds s a b)
rule-holds CallOtherSubr values s = with_two-holds s values _ (λ n number. other-holds s n number)
rule-holds Pop values s = pop-holds s s.results
rule-holds SetCurrentPoint values s = with_two-holds s values _ (λ x y. record { entered = refl; steps = refl })
rule-holds Hsbw values s = with_two-holds s values _ (λ sbx wx. record { entered = refl; steps = refl })
rule-holds EndChar values s = record { entered = refl; steps = refl }
rule-holds RMoveTo values s = with_two-holds s values _ (λ dx dy. move-holds s dx dy)
rule-holds HMoveTo values s = with_one-holds s values _ (λ dx. move-holds s dx _)
rule-holds VHCurveTo values s = with_four-holds s values _ (λ a b c d. curve-holds s _ a b c d _)
rule-holds HVCurveTo values s = with_four-holds s values _ (λ a b c d. curve-holds s a _ b c _ d)

execute-holds : (c : Command) (s : State) → Holds s (execute c s)
execute-holds c s =
    refuse-holds s (nat_lt (length s.stack) (takes c)) F30 _ (λ e. cc)
    (refuse-holds s (breaks_bearing c s) F36 _ (λ e. cc)
    (unless-holds s (operand_faults c (topmost (takes c) s.stack)) _ (operands-other c (topmost (takes c) s.stack))
    (refuse-holds s (breaks_flex c s) F41 _ (λ e. cc) (rule-holds c (topmost (takes c) s.stack) s))))

-- ---- a word

-- the state that a word leaves: the same Subrs entered, and one step more, within the limit
pub record Stepped (s t : State) : Type 0 where
  pub entered : t.entered ≡ s.entered
  pub steps : t.steps ≡ s.steps + 1
  pub within : t.steps ≤ 100000

below_when : (n : ℕ) → nat_le 100000 n ≡ false → n < 100000
below_when n h = grind (arith, nat_tests)

at_least_when : (n : ℕ) → nat_le 100000 n ≡ true → 100000 ≤ n
at_least_when n h = grind (arith, nat_tests)

abbrev counting : State → State
counting s = record s { steps = s.steps + 1 }

stepped-from : (s : State) (step : Step) → s.steps < 100000 → Holds (counting s) step → Leaves (Stepped s) step
stepped-from s (Next t) below h = record { entered = h.entered; steps = h.steps; within = omega (arith, h.steps) }
stepped-from s (Call n t) below h = record { entered = h.entered; steps = h.steps; within = omega (arith, h.steps) }
stepped-from s (Back t) below h = record { entered = h.entered; steps = h.steps; within = omega (arith, h.steps) }
stepped-from s (End t) below h = record { entered = h.entered; steps = h.steps; within = omega (arith, h.steps) }
stepped-from s (Compose a t) below h = record { entered = h.entered; steps = h.steps; within = omega (arith, h.steps) }
stepped-from s (Fault fault) below h = tt

pub step-leaves : (c : Command) (s : State) → Leaves (Stepped s) (step c s)
step-leaves c s =
    elim (cases_Bool (nat_le 100000 s.steps)) [
      | inl full ↦ rw full tt
      | inr room ↦ rw room (stepped-from s (execute c (counting s)) (below_when s.steps room) (execute-holds c (counting s)))
    ]

counts-from : (s : State) (step : Step) → Leaves (Stepped s) step → Leaves (λ t. t.steps ≡ s.steps + 1) step
counts-from s (Next t) h = h.steps
counts-from s (Call n t) h = h.steps
counts-from s (Back t) h = h.steps
counts-from s (End t) h = h.steps
counts-from s (Compose a t) h = h.steps
counts-from s (Fault fault) h = tt

pub step-counts : (c : Command) (s : State) → Leaves (λ t. t.steps ≡ s.steps + 1) (step c s)
step-counts c s = counts-from s (step c s) (step-leaves c s)

-- a refused word
stepped-not : (s : State) (step : Step) → Holds s step → step ≡ Fault F47 → ⊥
stepped-not s step h e = let other : Other F47 = subst (Holds s) e h in other refl

pub last-step : (c : Command) (s : State) → (step c s ≡ Fault F47) ↔ (100000 ≤ s.steps)
last-step c s =
    elim (cases_Bool (nat_le 100000 s.steps)) [
      | inl full ↦ (λ e. at_least_when s.steps full, λ h. rw full refl)
      | inr room ↦ (
        λ e. absurd (stepped-not (counting s) (execute c (counting s)) (execute-holds c (counting s)) (rw room at e)),
        λ h. absurd (let below = below_when s.steps room in omega arith),
      )
    ]
