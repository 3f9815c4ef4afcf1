-- Each word leaves what a run holds within its limits.
use Rattle.std.proofs.Common.{◌≡◌, ℕ, ◌+◌, Bool, true, false, List, [], ◌∷◌, ◌++◌, length, take, refl, Option, Some, None, ℤ, pos, negsuc}
use Rattle.std.specs.Prelude.{Result, Ok, Err, IfOk, IfSome, nat_le, nat_lt, not, ◌==◌, if◌then◌else◌}
use Rattle.std.specs.List.{AllByRecursion}
use Rattle.t1_frac.specs.Fraction.{Fraction, whole}
use Rattle.t1_frac.specs.Limits.{quotient}
use Rattle.t1_frac.specs.declared.fault.Code.{Code}
use Rattle.t1_frac.specs.declared.fault.Code.TheVariants.{F30, F31, F36, F41, F42, F47}
use Rattle.t1_code.specs.declared.command.Command.{Command}
use Rattle.t1_code.specs.declared.command.Command.TheVariants.{Num, HStem, VStem, VMoveTo, RLineTo, HLineTo, VLineTo, RRCurveTo, ClosePath, CallSubr, Return, DotSection, VStem3, HStem3, Seac, Sbw, Div, CallOtherSubr, Pop, SetCurrentPoint, Hsbw, EndChar, RMoveTo, HMoveTo, VHCurveTo, HVCurveTo}
use Rattle.t1_run.specs.declared.outline.Accent.{Accent}
use Rattle.t1_run.specs.declared.outline.Metric.{Metric}
use Rattle.t1_run.specs.declared.outline.Point.{Point}
use Rattle.t1_run.specs.declared.outline.Segment.{Segment}
use Rattle.t1_run.specs.declared.outline.Segment.TheVariants.{Line, Curve}
use Rattle.t1_run.specs.Operands.{topmost, below, takes, operand_fault, operand_faults, size_fault}
use Rattle.t1_run.specs.OtherSubrs.{is_supported, flex_curves, draw_flex, end_flex, start_flex, add_flex, other_effect, other_with, other_at, other_subr}
use Rattle.t1_run.specs.State.{State, Flex}
use Rattle.t1_run.specs.Step.{Step, Next, Call, Back, End, Compose, Fault, refuse, unless_fault, attempt, with_one, with_two, with_four, with_five, with_six, with_stack, cleared, push, zero_fraction, moved, move_by, line_by, curve_by, set_metric, divide, call, pop_result}
use Rattle.t1_run.specs.Words.{rule, execute, step, breaks_bearing, breaks_flex}
use Rattle.t1_run.proofs.Within.{IsValue, IsPlace, IsPlaced, IsDrawn, AllDrawn, each-append, each-take, each-drop, sized-places, moved-placed, quotient-value, whole-value, zero-place}

-- ---- states and steps within the limits

pub record MetricWithin (metric : Metric) : Type 0 where
  pub bearing : IsPlaced metric.bearing
  pub width : IsPlaced metric.width

pub record FlexWithin (flex : Flex) : Type 0 where
  pub before : IsPlaced flex.before
  pub recorded : AllByRecursion IsPlaced flex.recorded

pub record StateWithin (s : State) : Type 0 where
  pub stack : AllByRecursion IsValue s.stack
  pub results : AllByRecursion IsValue s.results
  pub current : IsPlaced s.current
  pub metric : IfSome s.metric MetricWithin
  pub flex : IfSome s.flex FlexWithin
  pub segments : AllDrawn s.segments

pub record AccentWithin (a : Accent) : Type 0 where
  pub asb : IsValue a.asb
  pub adx : IsValue a.adx
  pub ady : IsValue a.ady

abbrev pub StepWithin : Step → Type 0
StepWithin (Next s) = StateWithin s
StepWithin (Call n s) = StateWithin s
StepWithin (Back s) = StateWithin s
StepWithin (End s) = StateWithin s
StepWithin (Compose a s) = AccentWithin a × StateWithin s
StepWithin (Fault fault) = Unit {0}

-- ---- steps that are made of others

refuse-within : (test : Bool) (fault : Code) (next : Step) → StepWithin next → StepWithin (refuse test fault next)
refuse-within true fault next h = tt
refuse-within false fault next h = h

if-within : (test : Bool) (x y : Step) → StepWithin x → StepWithin y → StepWithin (if test then x else y)
if-within true x y h k = h
if-within false x y h k = k

-- what comes next may rest on there being no fault
unless-within : (fault : Option Code) (next : Step) → (fault ≡ None → StepWithin next) → StepWithin (unless_fault fault next)
unless-within None next h = h refl
unless-within (Some fault) next h = tt

attempt-within : {A : Type 0} (P : A → Type 0) (r : Result A Code) (next : A → Step)
    → IfOk r P → ((x : A) → P x → StepWithin (next x)) → StepWithin (attempt r next)
attempt-within P (Ok value) next h k = k value h
attempt-within P (Err fault) next h k = tt

with_one-within : (P : Fraction → Type 0) (values : List Fraction) (next : Fraction → Step) → AllByRecursion P values
    → ((a : Fraction) → P a → StepWithin (next a)) → StepWithin (with_one values next)
with_one-within P [] next h k = tt
with_one-within P (a ∷ []) next h k = k a h.0
with_one-within P (a ∷ b ∷ rest) next h k = tt

with_two-within : (P : Fraction → Type 0) (values : List Fraction) (next : Fraction → Fraction → Step) → AllByRecursion P values
    → ((a b : Fraction) → P a → P b → StepWithin (next a b)) → StepWithin (with_two values next)
with_two-within P [] next h k = tt
with_two-within P (a ∷ []) next h k = tt
with_two-within P (a ∷ b ∷ []) next h k = k a b h.0 h.1.0
with_two-within P (a ∷ b ∷ c ∷ rest) next h k = tt

with_four-within : (P : Fraction → Type 0) (values : List Fraction) (next : Fraction → Fraction → Fraction → Fraction → Step) → AllByRecursion P values
    → ((a b c d : Fraction) → P a → P b → P c → P d → StepWithin (next a b c d)) → StepWithin (with_four values next)
with_four-within P [] next h k = tt
with_four-within P (a ∷ []) next h k = tt
with_four-within P (a ∷ b ∷ []) next h k = tt
with_four-within P (a ∷ b ∷ c ∷ []) next h k = tt
with_four-within P (a ∷ b ∷ c ∷ d ∷ []) next h k = k a b c d h.0 h.1.0 h.1.1.0 h.1.1.1.0
with_four-within P (a ∷ b ∷ c ∷ d ∷ e ∷ rest) next h k = tt

with_five-within : (P : Fraction → Type 0) (values : List Fraction) (next : Fraction → Fraction → Fraction → Fraction → Fraction → Step) → AllByRecursion P values
    → ((a b c d e : Fraction) → P a → P b → P c → P d → P e → StepWithin (next a b c d e)) → StepWithin (with_five values next)
with_five-within P [] next h k = tt
with_five-within P (a ∷ []) next h k = tt
with_five-within P (a ∷ b ∷ []) next h k = tt
with_five-within P (a ∷ b ∷ c ∷ []) next h k = tt
with_five-within P (a ∷ b ∷ c ∷ d ∷ []) next h k = tt
with_five-within P (a ∷ b ∷ c ∷ d ∷ e ∷ []) next h k = k a b c d e h.0 h.1.0 h.1.1.0 h.1.1.1.0 h.1.1.1.1.0
with_five-within P (a ∷ b ∷ c ∷ d ∷ e ∷ f ∷ rest) next h k = tt

with_six-within : (P : Fraction → Type 0) (values : List Fraction) (next : Fraction → Fraction → Fraction → Fraction → Fraction → Fraction → Step) → AllByRecursion P values
    → ((a b c d e f : Fraction) → P a → P b → P c → P d → P e → P f → StepWithin (next a b c d e f)) → StepWithin (with_six values next)
with_six-within P [] next h k = tt
with_six-within P (a ∷ []) next h k = tt
with_six-within P (a ∷ b ∷ []) next h k = tt
with_six-within P (a ∷ b ∷ c ∷ []) next h k = tt
with_six-within P (a ∷ b ∷ c ∷ d ∷ []) next h k = tt
with_six-within P (a ∷ b ∷ c ∷ d ∷ e ∷ []) next h k = tt
with_six-within P (a ∷ b ∷ c ∷ d ∷ e ∷ f ∷ []) next h k = k a b c d e f h.0 h.1.0 h.1.1.0 h.1.1.1.0 h.1.1.1.1.0 h.1.1.1.1.1.0
with_six-within P (a ∷ b ∷ c ∷ d ∷ e ∷ f ∷ g ∷ rest) next h k = tt

-- ---- changes of the state

stack-within : (values : List Fraction) (s : State) → AllByRecursion IsValue values → StateWithin s → StateWithin (with_stack values s)
stack-within values s k h =
    record { stack = k; results = h.results; current = h.current; metric = h.metric; flex = h.flex; segments = h.segments }

below-within : (n : ℕ) (s : State) → StateWithin s → AllByRecursion IsValue (below n s.stack)
below-within n s h = each-take IsValue _ s.stack h.stack

push-within : (a : Fraction) (s : State) → IsValue a → StateWithin s → StepWithin (push a s)
push-within a s k h =
    refuse-within (nat_le 24 (length s.stack)) F31 _
    (stack-within (s.stack ++ a ∷ []) s (each-append IsValue s.stack (a ∷ []) h.stack (k, tt)) h)

-- the current point moves, the stack is cleared, and these segments are drawn
drawn-within : (s : State) (p : Point) (drawn : List Segment) → IsPlaced p → AllDrawn drawn → StateWithin s
    → StateWithin (cleared (record s { current = p; segments = s.segments ++ drawn }))
drawn-within s p drawn k d h = record {
  stack = tt;
  results = h.results;
  current = k;
  metric = h.metric;
  flex = h.flex;
  segments = each-append IsDrawn s.segments drawn h.segments d;
}

cleared-at : (s : State) (p : Point) → IsPlaced p → StateWithin s → StateWithin (cleared (record s { current = p }))
cleared-at s p k h =
    record { stack = tt; results = h.results; current = k; metric = h.metric; flex = h.flex; segments = h.segments }

cleared-within : (s : State) → StateWithin s → StateWithin (cleared s)
cleared-within s h = stack-within [] s tt h

move-within : (dx dy : Fraction) (s : State) → IsValue dx → IsValue dy → StateWithin s → StepWithin (move_by dx dy s)
move-within dx dy s hx hy h =
    attempt-within IsPlaced (moved s.current dx dy) _ (moved-placed s.current dx dy h.current hx hy) (λ p k. cleared-at s p k h)

line-within : (dx dy : Fraction) (s : State) → IsValue dx → IsValue dy → StateWithin s → StepWithin (line_by dx dy s)
line-within dx dy s hx hy h =
    attempt-within IsPlaced (moved s.current dx dy) _ (moved-placed s.current dx dy h.current hx hy) (λ p k.
    drawn-within s p (Line s.current p ∷ []) k ((h.current, k), tt) h)

curve-within : (dx1 dy1 dx2 dy2 dx3 dy3 : Fraction) (s : State)
    → IsValue dx1 → IsValue dy1 → IsValue dx2 → IsValue dy2 → IsValue dx3 → IsValue dy3
    → StateWithin s → StepWithin (curve_by dx1 dy1 dx2 dy2 dx3 dy3 s)
curve-within dx1 dy1 dx2 dy2 dx3 dy3 s x1 y1 x2 y2 x3 y3 h =
    attempt-within IsPlaced (moved s.current dx1 dy1) _ (moved-placed s.current dx1 dy1 h.current x1 y1) (λ p1 k1.
    attempt-within IsPlaced (moved p1 dx2 dy2) _ (moved-placed p1 dx2 dy2 k1 x2 y2) (λ p2 k2.
    attempt-within IsPlaced (moved p2 dx3 dy3) _ (moved-placed p2 dx3 dy3 k2 x3 y3) (λ p3 k3.
    drawn-within s p3 (Curve s.current p1 p2 p3 ∷ []) k3 ((h.current, k1, k2, k3), tt) h)))

metric-within : (sbx sby wx wy : Fraction) (s : State) → IsPlace sbx → IsPlace sby → IsPlace wx → IsPlace wy
    → StateWithin s → StepWithin (set_metric sbx sby wx wy s)
metric-within sbx sby wx wy s hx hy hwx hwy h = record {
  stack = tt;
  results = h.results;
  current = record { x = hx; y = hy };
  metric = record { bearing = record { x = hx; y = hy }; width = record { x = hwx; y = hwy } };
  flex = h.flex;
  segments = h.segments;
}

divide-within : (a b : Fraction) (s : State) → IsValue a → IsValue b → StateWithin s → StepWithin (divide a b s)
divide-within a b s ha hb h =
    attempt-within IsValue (quotient a b) _ (quotient-value a b ha) (λ q k.
    stack-within (below 2 s.stack ++ q ∷ []) s (each-append IsValue (below 2 s.stack) (q ∷ []) (below-within 2 s h) (k, tt)) h)

call-within : (n : ℤ) (s : State) → StateWithin s → StepWithin (call n s)
call-within (pos n) s h = h
call-within (negsuc n) s h = tt

results-within : (values : List Fraction) (s : State) → AllByRecursion IsValue values → StateWithin s → StateWithin (record s { results = values })
results-within values s k h =
    record { stack = h.stack; results = k; current = h.current; metric = h.metric; flex = h.flex; segments = h.segments }

pop-within : (results : List Fraction) (s : State) → AllByRecursion IsValue results → StateWithin s → StepWithin (pop_result results s)
pop-within [] s k h = tt
pop-within (a ∷ rest) s k h = push-within a (record s { results = rest }) k.0 (results-within rest s k.1 h)

-- ---- callothersubr

start_flex-within : (flex : Option Flex) (s : State) → StateWithin s → StepWithin (start_flex flex s)
start_flex-within None s h = record {
  stack = h.stack;
  results = tt;
  current = h.current;
  metric = h.metric;
  flex = record { before = h.current; recorded = tt };
  segments = h.segments;
}
start_flex-within (Some _) s h = tt

add_flex-within : (flex : Option Flex) (s : State) → IfSome flex FlexWithin → StateWithin s → StepWithin (add_flex flex s)
add_flex-within None s k h = tt
add_flex-within (Some f) s k h =
    refuse-within (nat_le 7 (length f.recorded)) F41 _ (record {
      stack = h.stack;
      results = tt;
      current = h.current;
      metric = h.metric;
      flex = record { before = k.before; recorded = each-append IsPlaced f.recorded (s.current ∷ []) k.recorded (h.current, tt) };
      segments = h.segments;
    })

curves-within : (before : Point) (recorded : List Point) → IsPlaced before → AllByRecursion IsPlaced recorded
    → IfSome (flex_curves before recorded) AllDrawn
curves-within before [] h k = tt
curves-within before (reference ∷ []) h k = tt
curves-within before (reference ∷ p2 ∷ []) h k = tt
curves-within before (reference ∷ p2 ∷ p3 ∷ []) h k = tt
curves-within before (reference ∷ p2 ∷ p3 ∷ p4 ∷ []) h k = tt
curves-within before (reference ∷ p2 ∷ p3 ∷ p4 ∷ p5 ∷ []) h k = tt
curves-within before (reference ∷ p2 ∷ p3 ∷ p4 ∷ p5 ∷ p6 ∷ []) h k = tt
curves-within before (reference ∷ p2 ∷ p3 ∷ p4 ∷ p5 ∷ p6 ∷ p7 ∷ []) h k =
    let points = k.1 in
    ((h, points.0, points.1.0, points.1.1.0), ((points.1.1.0, points.1.1.1.0, points.1.1.1.1.0, points.1.1.1.1.1.0), tt))
curves-within before (reference ∷ p2 ∷ p3 ∷ p4 ∷ p5 ∷ p6 ∷ p7 ∷ p8 ∷ rest) h k = tt

draw_flex-within : (curves : Option (List Segment)) (arguments : List Fraction) (s : State)
    → IfSome curves AllDrawn → AllByRecursion IsValue arguments → StateWithin s → StepWithin (draw_flex curves arguments s)
draw_flex-within None arguments s d k h = tt
draw_flex-within (Some curves) [] s d k h = tt
draw_flex-within (Some curves) (height ∷ []) s d k h = tt
draw_flex-within (Some curves) (height ∷ x ∷ []) s d k h = tt
draw_flex-within (Some curves) (height ∷ x ∷ y ∷ []) s d k h = record {
  stack = h.stack;
  results = k.1;
  current = h.current;
  metric = h.metric;
  flex = tt;
  segments = each-append IsDrawn s.segments curves h.segments d;
}
draw_flex-within (Some curves) (height ∷ x ∷ y ∷ a ∷ rest) s d k h = tt

end_flex-within : (flex : Option Flex) (arguments : List Fraction) (s : State)
    → IfSome flex FlexWithin → AllByRecursion IsValue arguments → StateWithin s → StepWithin (end_flex flex arguments s)
end_flex-within None arguments s f k h = tt
end_flex-within (Some flex) arguments s f k h =
    draw_flex-within (flex_curves flex.before flex.recorded) arguments s (curves-within flex.before flex.recorded f.before f.recorded) k h

left-within : (test : Bool) (arguments : List Fraction) → AllByRecursion IsValue arguments → AllByRecursion IsValue (if test then arguments else [])
left-within true arguments h = h
left-within false arguments h = tt

effect-within : (number : ℕ) (arguments : List Fraction) (s : State) → AllByRecursion IsValue arguments → StateWithin s
    → StepWithin (other_effect number arguments s)
effect-within number arguments s k h =
    if-within (number == 0) _ _ (end_flex-within s.flex arguments s h.flex k h)
    (if-within (number == 1) _ _ (start_flex-within s.flex s h)
    (if-within (number == 2) _ _ (add_flex-within s.flex s h.flex h)
    (results-within (if number == 3 then arguments else []) s (left-within (number == 3) arguments k) h)))

other-with-within : (number n : ℕ) (s : State) → StateWithin s → StepWithin (other_with number n s)
other-with-within number n s h =
    refuse-within (nat_lt (length s.stack) (2 + n)) F30 _
    (unless-within (size_fault (take n (topmost (2 + n) s.stack))) _ (λ none.
    effect-within number (take n (topmost (2 + n) s.stack)) (with_stack (below (2 + n) s.stack) s)
    (each-take IsValue n (topmost (2 + n) s.stack) (each-drop IsValue _ s.stack h.stack))
    (stack-within (below (2 + n) s.stack) s (below-within (2 + n) s h) h)))

other-at-within : (number n : ℤ) (s : State) → StateWithin s → StepWithin (other_at number n s)
other-at-within (pos number) (pos n) s h = other-with-within number n s h
other-at-within (pos number) (negsuc n) s h = tt
other-at-within (negsuc number) n s h = tt

other-within : (n number : Fraction) (s : State) → StateWithin s → StepWithin (other_subr n number s)
other-within n number s h =
    unless-within (operand_fault true number) _ (λ none.
    unless-within (operand_fault true n) _ (λ none'.
    refuse-within (not (is_supported number.num n.num)) F42 _ (other-at-within number.num n.num s h)))

-- ---- each command

zero-value : IsValue zero_fraction
zero-value = zero-place.value

rule-within : (c : Command) (values : List Fraction) (s : State) → AllByRecursion IsValue values → operand_faults c values ≡ None
    → StateWithin s → StepWithin (rule c values s)
rule-within (Num n) values s k none h = push-within (whole n) s (whole-value n) h
rule-within HStem values s k none h = cleared-within s h
rule-within VStem values s k none h = cleared-within s h
rule-within VMoveTo values s k none h = with_one-within IsValue values _ k (λ dy hy. move-within _ dy s zero-value hy h)
rule-within RLineTo values s k none h = with_two-within IsValue values _ k (λ dx dy hx hy. line-within dx dy s hx hy h)
rule-within HLineTo values s k none h = with_one-within IsValue values _ k (λ dx hx. line-within dx _ s hx zero-value h)
rule-within VLineTo values s k none h = with_one-within IsValue values _ k (λ dy hy. line-within _ dy s zero-value hy h)
rule-within RRCurveTo values s k none h =
    with_six-within IsValue values _ k (λ a b c d e f ha hb hc hd he hf. curve-within a b c d e f s ha hb hc hd he hf h)
rule-within ClosePath values s k none h = cleared-within s h
rule-within CallSubr values s k none h =
    with_one-within IsValue values _ k (λ n hn. call-within n.num _ (stack-within (below 1 s.stack) s (below-within 1 s h) h))
rule-within Return values s k none h = h
rule-within DotSection values s k none h = cleared-within s h
rule-within VStem3 values s k none h = cleared-within s h
rule-within HStem3 values s k none h = cleared-within s h
rule-within Seac values s k none h =
    with_five-within IsValue values _ k (λ asb adx ady base accent hasb hadx hady hbase haccent.
    (record { asb = hasb; adx = hadx; ady = hady }, cleared-within s h))
rule-within Sbw values s k none h =
    with_four-within IsPlace values _ (sized-places values k none) (λ sbx sby wx wy hx hy hwx hwy. metric-within sbx sby wx wy s hx hy hwx hwy h)
rule-within Div values s k none h = with_two-within IsValue values _ k (λ a b ha hb. divide-within a b s ha hb h)
rule-within CallOtherSubr values s k none h = with_two-within IsValue values _ k (λ n number hn hnumber. other-within n number s h)
rule-within Pop values s k none h = pop-within s.results s h.results h
rule-within SetCurrentPoint values s k none h =
    with_two-within IsPlace values _ (sized-places values k none) (λ x y hx hy. cleared-at s (record { x = x; y = y }) (record { x = hx; y = hy }) h)
rule-within Hsbw values s k none h =
    with_two-within IsPlace values _ (sized-places values k none) (λ sbx wx hx hwx. metric-within sbx _ wx _ s hx zero-place hwx zero-place h)
rule-within EndChar values s k none h = cleared-within s h
rule-within RMoveTo values s k none h = with_two-within IsValue values _ k (λ dx dy hx hy. move-within dx dy s hx hy h)
rule-within HMoveTo values s k none h = with_one-within IsValue values _ k (λ dx hx. move-within dx _ s hx zero-value h)
rule-within VHCurveTo values s k none h =
    with_four-within IsValue values _ k (λ a b c d ha hb hc hd. curve-within _ a b c d _ s zero-value ha hb hc hd zero-value h)
rule-within HVCurveTo values s k none h =
    with_four-within IsValue values _ k (λ a b c d ha hb hc hd. curve-within a _ b c _ d s ha zero-value hb hc zero-value hd h)

execute-within : (c : Command) (s : State) → StateWithin s → StepWithin (execute c s)
execute-within c s h =
    refuse-within (nat_lt (length s.stack) (takes c)) F30 _
    (refuse-within (breaks_bearing c s) F36 _
    (unless-within (operand_faults c (topmost (takes c) s.stack)) _ (λ none.
    refuse-within (breaks_flex c s) F41 _
    (rule-within c (topmost (takes c) s.stack) s (each-drop IsValue _ s.stack h.stack) none h))))

pub step-within : (c : Command) (s : State) → StateWithin s → StepWithin (step c s)
step-within c s h =
    refuse-within (nat_le 100000 s.steps) F47 _ (execute-within c (record s { steps = s.steps + 1 }) (record {
      stack = h.stack;
      results = h.results;
      current = h.current;
      metric = h.metric;
      flex = h.flex;
      segments = h.segments;
    }))
