-- Numbers that are pushed one after another are steps of a run.
use Rattle.std.proofs.Common.{◌≡◌, ℕ, zero, suc, ◌+◌, ◌-◌, ◌<◌, ◌≤◌, ℤ, List, [], ◌∷◌, ◌++◌, length, take, drop, refl, sym, ◌∙◌, ap, arith, subst, append_assoc, slice_set, false, nat_lt, length-append}
use Rattle.std.proofs.lemmas.List.{append-nil, drop-drop, take_more_set}
use Rattle.std.proofs.lemmas.List.Sums.{take_while-cons}
use Rattle.std.proofs.lemmas.Bool.{lt-leb}
use Rattle.std.proofs.Math.Seq.{drop-length, drop-append_seam, take-append_seam}
use Rattle.std.specs.List.{filter_map}
use Rattle.std.specs.Prelude.{Ok}
use Rattle.t1_frac.specs.Fraction.{Fraction, whole}
use Rattle.t1_frac.specs.Limits.{quotient}
use Rattle.t1_frac.specs.declared.fault.Code.TheVariants.{F30, F47}
use Rattle.t1_code.specs.declared.command.Command.{Command}
use Rattle.t1_code.specs.declared.command.Command.TheVariants.{Num, Div}
use Rattle.t1_run.specs.Operands.{topmost, below, size_fault}
use Rattle.t1_run.specs.State.{State}
use Rattle.t1_run.specs.Step.{Next, push, refuse, unless_fault, attempt, with_two, divide}
use Rattle.t1_run.specs.Words.{execute, step}
use Rattle.t1_run.specs.Run.{FontBodies}
use Rattle.t1_run.specs.Continuing.{Continues}
use Rattle.t1_run.specs.Pushing.{pushed_value, is_number, numbers_at_front}
use Rattle.t1_run.proofs.Continuing.{Continues-next}

-- ---- the numbers at the front

front_number : (n : ℕ) (k : ℤ) (commands : List Command) → numbers_at_front (suc n) (Num k ∷ commands) ≡ whole k ∷ numbers_at_front n commands
unfolding numbers_at_front
front_number n k commands = ap (λ cs. take (suc n) (filter_map pushed_value cs)) (take_while-cons is_number (Num k) commands)

pub front_step : (n : ℕ) (k : ℤ) (commands : List Command) → 0 < n → numbers_at_front n (Num k ∷ commands) ≡ whole k ∷ numbers_at_front (n - 1) commands
front_step zero k commands h = absurd (omega (arith, h))
front_step (suc n) k commands h = let e : n ≡ suc n - 1 = omega arith in front_number n k commands ∙ ap (λ m. whole k ∷ numbers_at_front m commands) e

front_zero : (commands : List Command) → numbers_at_front 0 commands ≡ []
unfolding numbers_at_front
front_zero commands = refl

pub front_none : (n : ℕ) → numbers_at_front n [] ≡ []
unfolding numbers_at_front
front_none zero = refl
front_none (suc n) = refl

pub front_past : (n : ℕ) (commands : List Command) → n ≡ 0 → numbers_at_front n commands ≡ []
front_past n commands e = ap (λ m. numbers_at_front m commands) e ∙ front_zero commands

pub front_other : (n : ℕ) (c : Command) (commands : List Command) → ((k : ℤ) → c ≡ Num k → ⊥) → numbers_at_front n (c ∷ commands) ≡ []
unfolding numbers_at_front
front_other zero c commands h = refl
front_other (suc n) (Num k) commands h = absurd (h k refl)
front_other (suc n) _ commands h = refl

-- ---- a number is a step

none_topmost : (values : List Fraction) → topmost 0 values ≡ []
none_topmost values = let e : length values - 0 ≡ length values = omega arith in ap (λ n. drop n values) e ∙ drop-length values

enough : (n : ℕ) → nat_lt n 0 ≡ false
enough n = lt-leb (suc n) 0 (omega arith)

number_executed : (k : ℤ) (s : State) → execute (Num k) s ≡ push (whole k) s
number_executed k s =
    ap (λ b. refuse b F30 (unless_fault (size_fault (topmost 0 s.stack)) (push (whole k) s))) (enough (length s.stack))
    ∙ ap (λ vs. unless_fault (size_fault vs) (push (whole k) s)) (none_topmost s.stack)

pub number_step : (k : ℤ) (s : State) → s.steps < 100000 → length s.stack < 24 → step (Num k) s ≡ Next (record s { stack = s.stack ++ whole k ∷ []; steps = s.steps + 1 })
number_step k s few room =
    ap (λ b. refuse b F47 (execute (Num k) (record s { steps = s.steps + 1 }))) (lt-leb 100000 s.steps few)
    ∙ number_executed k (record s { steps = s.steps + 1 })
    ∙ (rw (lt-leb 24 (length s.stack) room) refl)

-- ---- numbers that are stored

pub stored_end : (front ns whole : List Fraction) → front ++ ns ≡ whole → ns ≡ [] → front ≡ whole
stored_end front ns whole all none = sym (append-nil front) ∙ sym (ap (λ t. front ++ t) none) ∙ all

pub counted_end : (count total : ℕ) (ns : List Fraction) → count + length ns ≡ total → ns ≡ [] → count ≡ total
counted_end count total ns all none = let l : length ns ≡ 0 = ap length none in omega (arith, all, l)

pub stored_more : (values : List Fraction) (place count : ℕ) (x : Fraction) (ns more whole : List Fraction) → place + count < length values → ns ≡ x ∷ more
    → take (place + count) values ++ ns ≡ whole → take (place + (count + 1)) (slice_set values (place + count) x) ++ more ≡ whole
stored_more values place count x ns more whole within is all =
    let next : place + (count + 1) ≡ place + count + 1 = omega arith in
    ap (λ k. take k (slice_set values (place + count) x) ++ more) next
    ∙ ap (λ t. t ++ more) (take_more_set values (place + count) x within)
    ∙ append_assoc (take (place + count) values) (x ∷ []) more
    ∙ ap (λ t. take (place + count) values ++ t) (sym is)
    ∙ all

pub counted_more : (count total : ℕ) (x : Fraction) (ns more : List Fraction) → ns ≡ x ∷ more → count + length ns ≡ total → count + 1 + length more ≡ total
counted_more count total x ns more is all = let l : length ns ≡ suc (length more) = ap length is in omega (arith, all, l)

pub rest_more : (count : ℕ) (commands rest : List Command) (c : Command) (tail : List Command) → rest ≡ drop count commands → rest ≡ c ∷ tail → tail ≡ drop (count + 1) commands
rest_more count commands rest c tail left e = ap (drop 1) (sym e ∙ left) ∙ drop-drop 1 count commands

-- the numbers at the front of what is left, where a number is first
pub front_left : (most count : ℕ) (k : ℤ) (rest : List Command) (c : Command) (tail : List Command) → count < most → rest ≡ c ∷ tail → c ≡ Num k
    → numbers_at_front (most - count) rest ≡ whole k ∷ numbers_at_front (most - (count + 1)) tail
front_left most count k rest c tail within e is =
    let less : most - count - 1 ≡ most - (count + 1) = omega arith in
    ap (numbers_at_front (most - count)) (e ∙ ap (λ d. d ∷ tail) is) ∙ front_step (most - count) k tail (omega (arith, within)) ∙ ap (λ n. whole k ∷ numbers_at_front n tail) less

nothing_more : (m : FontBodies) (own commands : List Command) (waiting : List (List Command)) (s : State) → Continues m own commands waiting s
    → Continues m own commands waiting (record s { stack = s.stack ++ []; steps = s.steps + 0 })
nothing_more m own commands waiting s h =
    let same : s.steps ≡ s.steps + 0 = omega arith in
    subst (λ n. Continues m own commands waiting (record s { stack = s.stack ++ []; steps = n })) same
    (subst (λ xs. Continues m own commands waiting (record s { stack = xs })) (sym (append-nil s.stack)) h)

regrouped : (m : FontBodies) (own commands : List Command) (waiting : List (List Command)) (s : State) (x : Fraction) (xs : List Fraction)
    → Continues m own commands waiting (record s { stack = (s.stack ++ x ∷ []) ++ xs; steps = s.steps + 1 + length xs })
    → Continues m own commands waiting (record s { stack = s.stack ++ x ∷ xs; steps = s.steps + suc (length xs) })
regrouped m own commands waiting s x xs h =
    let same : s.steps + 1 + length xs ≡ s.steps + suc (length xs) = omega arith in
    subst (λ n. Continues m own commands waiting (record s { stack = s.stack ++ x ∷ xs; steps = n })) same
    (subst (λ ys. Continues m own commands waiting (record s { stack = ys; steps = s.steps + 1 + length xs })) (append_assoc s.stack (x ∷ []) xs) h)

-- the numbers at the front are steps after which the run goes on
pub numbers_go : (most : ℕ) (m : FontBodies) (own commands : List Command) (waiting : List (List Command)) (s : State) → most ≤ 100000 - s.steps → most ≤ 24 - length s.stack
    → Continues m own commands waiting s
    → Continues m own (drop (length (numbers_at_front most commands)) commands) waiting (record s { stack = s.stack ++ numbers_at_front most commands; steps = s.steps + length (numbers_at_front most commands) })
unfolding numbers_at_front
numbers_go zero m own commands waiting s few room h = nothing_more m own commands waiting s h
numbers_go (suc n) m own [] waiting s few room h = nothing_more m own [] waiting s h
numbers_go (suc n) m own (Num k ∷ commands) waiting s few room h =
    let next : State = record s { stack = s.stack ++ whole k ∷ []; steps = s.steps + 1 } in
    let size = length-append s.stack (whole k ∷ []) in
    let later = numbers_go n m own commands waiting next (omega (arith, few)) (omega (arith, room, size)) (Continues-next h (number_step k s (omega (arith, few)) (omega (arith, room)))) in
    subst (λ xs. Continues m own (drop (length xs) (Num k ∷ commands)) waiting (record s { stack = s.stack ++ xs; steps = s.steps + length xs })) (sym (front_number n k commands))
    (regrouped m own _ waiting s (whole k) (numbers_at_front n commands) later)
numbers_go (suc n) m own (_ ∷ commands) waiting s few room h = nothing_more m own _ waiting s h

pub pushed_go : (most count : ℕ) (m : FontBodies) (own commands rest : List Command) (waiting : List (List Command)) (s : State) (stack : List Fraction) → most ≤ 100000 - s.steps
    → most ≤ 24 - length s.stack → count ≡ length (numbers_at_front most commands) → rest ≡ drop count commands → stack ≡ s.stack ++ numbers_at_front most commands
    → Continues m own commands waiting s → Continues m own rest waiting (record s { stack = stack; steps = s.steps + count })
pushed_go most count m own commands rest waiting s stack few room counted left pushed h =
    let cut = left ∙ ap (λ n. drop n commands) counted in
    subst (λ r. Continues m own r waiting (record s { stack = stack; steps = s.steps + count })) (sym cut)
    (subst (λ xs. Continues m own (drop (length (numbers_at_front most commands)) commands) waiting (record s { stack = xs; steps = s.steps + count })) (sym pushed)
    (subst (λ n. Continues m own (drop (length (numbers_at_front most commands)) commands) waiting (record s { stack = s.stack ++ numbers_at_front most commands; steps = s.steps + n })) (sym counted)
    (numbers_go most m own commands waiting s few room h)))

-- ---- a quotient of two numbers

two_on_top : (values : List Fraction) (a b : Fraction) → length ((values ++ a ∷ []) ++ b ∷ []) - 2 ≡ length values
two_on_top values a b =
    let l = length-append (values ++ a ∷ []) (b ∷ []) in
    let k = length-append values (a ∷ []) in
    omega (arith, l, k)

two_topmost : (values : List Fraction) (a b : Fraction) → topmost 2 ((values ++ a ∷ []) ++ b ∷ []) ≡ a ∷ b ∷ []
two_topmost values a b =
    ap (λ n. drop n ((values ++ a ∷ []) ++ b ∷ [])) (two_on_top values a b)
    ∙ ap (drop (length values)) (append_assoc values (a ∷ []) (b ∷ []))
    ∙ drop-append_seam values (a ∷ b ∷ [])

below_two : (values : List Fraction) (a b : Fraction) → below 2 ((values ++ a ∷ []) ++ b ∷ []) ≡ values
below_two values a b =
    ap (λ n. take n ((values ++ a ∷ []) ++ b ∷ [])) (two_on_top values a b)
    ∙ ap (take (length values)) (append_assoc values (a ∷ []) (b ∷ []))
    ∙ take-append_seam values (a ∷ b ∷ [])

two_enough : (values : List Fraction) (a b : Fraction) → nat_lt (length ((values ++ a ∷ []) ++ b ∷ [])) 2 ≡ false
two_enough values a b =
    let l = length-append (values ++ a ∷ []) (b ∷ []) in
    let k = length-append values (a ∷ []) in
    lt-leb (suc (length ((values ++ a ∷ []) ++ b ∷ []))) 2 (omega (arith, l, k))

-- a div of the two values on the top, whose quotient has no fault
div_step : (values : List Fraction) (a b q : Fraction) (s : State) → s.stack ≡ (values ++ a ∷ []) ++ b ∷ [] → s.steps < 100000 → quotient a b ≡ Ok q
    → step Div s ≡ Next (record s { stack = values ++ q ∷ []; steps = s.steps + 1 })
div_step values a b q s on few is =
    ap (λ t. refuse t F47 (execute Div (record s { steps = s.steps + 1 }))) (lt-leb 100000 s.steps few)
    ∙ ap (λ t. refuse (nat_lt (length t) 2) F30 (with_two (topmost 2 t) (λ c d. divide c d (record s { steps = s.steps + 1 })))) on
    ∙ ap (λ t. refuse t F30 (with_two (topmost 2 ((values ++ a ∷ []) ++ b ∷ [])) (λ c d. divide c d (record s { steps = s.steps + 1 })))) (two_enough values a b)
    ∙ ap (λ t. with_two t (λ c d. divide c d (record s { steps = s.steps + 1 }))) (two_topmost values a b)
    ∙ ap (λ r. attempt r (λ c. Next (record s { stack = below 2 s.stack ++ c ∷ []; steps = s.steps + 1 }))) is
    ∙ ap (λ t. Next (record s { stack = below 2 t ++ q ∷ []; steps = s.steps + 1 })) on
    ∙ ap (λ t. Next (record s { stack = t ++ q ∷ []; steps = s.steps + 1 })) (below_two values a b)

-- two numbers and a div are steps after which the run goes on
pub quotient_goes : (m : FontBodies) (own rest : List Command) (waiting : List (List Command)) (s : State) (a b : ℤ) (q : Fraction)
    → s.steps + 3 ≤ 100000 → length s.stack + 2 ≤ 24 → quotient (whole a) (whole b) ≡ Ok q
    → Continues m own (Num a ∷ Num b ∷ Div ∷ rest) waiting s → Continues m own rest waiting (record s { stack = s.stack ++ q ∷ []; steps = s.steps + 3 })
quotient_goes m own rest waiting s a b q few room is h =
    let one : State = record s { stack = s.stack ++ whole a ∷ []; steps = s.steps + 1 } in
    let two : State = record one { stack = one.stack ++ whole b ∷ []; steps = one.steps + 1 } in
    let size = length-append s.stack (whole a ∷ []) in
    let first = Continues-next h (number_step a s (omega (arith, few)) (omega (arith, room))) in
    let second = Continues-next first (number_step b one (omega (arith, few)) (omega (arith, room, size))) in
    let third = Continues-next second (div_step s.stack (whole a) (whole b) q two refl (omega (arith, few)) is) in
    let same : s.steps + 1 + 1 + 1 ≡ s.steps + 3 = omega arith in
    subst (λ n. Continues m own rest waiting (record s { stack = s.stack ++ q ∷ []; steps = n })) same third
