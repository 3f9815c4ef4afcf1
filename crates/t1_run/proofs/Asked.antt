-- A run without a fault asks for the Subrs that it enters and for its parts, has all of them, and makes at most 100,000 steps.
use Rattle.std.proofs.Common.{◌≡◌, ℕ, zero, suc, ◌≤◌, Bool, true, false, List, [], ◌∷◌, ◌++◌, append_assoc, refl, sym, ◌∙◌, ap, subst, inl, inr, arith, Option, Some, None}
use Rattle.std.specs.Prelude.{Ok, nat_lt, ◌==◌, ◌||◌, ◌↔◌, ◌⊎◌}
use Rattle.std.specs.List.{list_any}
use Rattle.std.specs.Option.{ok_or}
use Rattle.std.specs.Str.{bytes_eq}
use Rattle.std.proofs.lemmas.Bool.{cases_Bool, or_cases, or_left, or_right}
use Rattle.std.proofs.lemmas.Bool.Decides.{nat_tests}
use Rattle.std.proofs.lemmas.List.{append-nil}
use Rattle.std.proofs.lemmas.Slice.Eq.{bytes_eq-Decides}
use Rattle.t1_frac.specs.Outcome.{◌>>=◌}
use Rattle.t1_frac.specs.declared.fault.Code.TheVariants.{F44, F45}
use Rattle.t1_code.specs.declared.command.Command.{Command}
use Rattle.t1_run.specs.declared.outline.Accent.{Accent}
use Rattle.t1_run.specs.declared.outline.Composite.{Composite}
use Rattle.t1_run.specs.declared.outline.Metric.{Metric}
use Rattle.t1_run.specs.Footprint.{Includes, KeysFrom, keys_after, keys_of_names, keys_of_parts, keys_of_step, keys_of_words, keys_of_body, keys_of_call, asked_of, foot, Leaves, asks, uses, HasParts, ExactLaw, PartsLaw}
use Rattle.t1_run.specs.Run.{FontBodies, Key, Subr, Glyph, RunEnd, OutOfWords, Returned, Completed, Failed, Runner, Caller, Drawing, go_on, act, run_words, call_within, called, too_deep, composed, standard_glyph, entered_with, entering, body_stop, own, own_of, drawing_of, outcome_of}
use Rattle.t1_run.specs.State.{State, initial}
use Rattle.t1_run.specs.Step.{Step, Next, Call, Back, End, Compose, Fault}
use Rattle.t1_run.specs.Words.{step}
use Rattle.t1_run.proofs.Agreeing.{in_first, in_second}
use Rattle.t1_run.proofs.Steps.{Stepped, step-leaves}

-- ---- what holds of a run, word by word

-- the asked keys are these, and no others
record Asks (composite : Option Composite) (entered : List ℕ) (asked : List Key) : Type 0 where
  only : (k : Key) → Includes asked k → asks composite entered k ≡ true
  all : (k : Key) → asks composite entered k ≡ true → Includes asked k

-- the maps have each of these Subrs
abbrev pub HasSubrs : FontBodies → List ℕ → Type 0
HasSubrs m entered = (n : ℕ) → list_any (λ e. e == n) entered ≡ true → (body : List Command) × (m.subrs n ≡ Some body)

-- what holds between words, where these keys were asked for so far
record Under (m : FontBodies) (asked : List Key) (s : State) : Type 0 where
  keys : Asks None s.entered asked
  subrs : HasSubrs m s.entered
  steps : s.steps ≤ 100000

-- what holds where a run ends by endchar or seac
record Over (m : FontBodies) (composite : Option Composite) (asked : List Key) (s : State) : Type 0 where
  keys : Asks composite s.entered asked
  subrs : HasSubrs m s.entered
  parts : HasParts m composite
  steps : s.steps ≤ 100000

abbrev Stops : FontBodies → List Key → RunEnd → Type 0
Stops m asked (OutOfWords s) = Under m asked s
Stops m asked (Returned s) = Under m asked s
Stops m asked (Completed composite s) = Over m composite asked s
Stops m asked (Failed fault) = Unit {0}

-- a run asks for these keys, after those that were asked for before it
abbrev Runs : FontBodies → Runner → KeysFrom → Type 0
Runs m run keys = (asked : List Key) (s : State) → Under m asked s → Stops m (asked ++ keys s) (run s)

-- a call asks for its Subr first
abbrev Calls : FontBodies → Caller → (ℕ → KeysFrom) → Type 0
Calls m caller keys = (n : ℕ) (asked : List Key) (s : State) → Under m asked s → Stops m ((asked ++ Subr n ∷ []) ++ keys n s) (caller n s)

-- ---- a Subr more

or_swap : (a b c : Bool) → (a || (b || c)) ≡ (b || (a || c))
or_swap true true c = refl
or_swap true false c = refl
or_swap false true c = refl
or_swap false false c = refl

or_once : (a c : Bool) → (a || c) ≡ (a || (a || c))
or_once true c = refl
or_once false c = refl

pub eq_self : (n : ℕ) → (n == n) ≡ true
eq_self n = grind (arith, nat_tests)

same_when : (n k : ℕ) → (n == k) ≡ true → n ≡ k
same_when n k h = grind (arith, nat_tests)

-- the numbers with one more are it and the others
entered-is : (n k : ℕ) (ms : List ℕ) → list_any (λ m. m == k) (entered_with n ms) ≡ ((n == k) || list_any (λ m. m == k) ms)
entered-is n k [] = refl
entered-is n k (m ∷ ms) =
    elim (cases_Bool (nat_lt n m)) [
      | inl less ↦ rw less refl
      | inr not_less ↦ elim (cases_Bool (n == m)) [
        | inl same ↦
            let e : n ≡ m = same_when n m same in
            rw (not_less, same) (rw e (or_once (m == k) (list_any (λ x. x == k) ms)))
        | inr other ↦ rw (not_less, other) (ap (λ b. (m == k) || b) (entered-is n k ms) ∙ or_swap (m == k) (n == k) (list_any (λ m. m == k) ms))
      ]
    ]

pub bytes_self : (g : List ℕ) → bytes_eq g g ≡ true
bytes_self g = (bytes_eq-Decides g g).1 refl

pub bytes_same : (g h : List ℕ) → bytes_eq g h ≡ true → g ≡ h
bytes_same g h e = (bytes_eq-Decides g h).0 e

-- a key among these and those is among the ones or the others
among : (ks ls : List Key) (k : Key) → Includes (ks ++ ls) k → Includes ks k ⊎ Includes ls k
among [] ls k i = inr i
among (x ∷ ks) ls k (inl e) = inl (inl e)
among (x ∷ ks) ls k (inr i) = by (among ks ls k i) where
  by : Includes ks k ⊎ Includes ls k → Includes (x ∷ ks) k ⊎ Includes ls k
  by (inl j) = inl (inr j)
  by (inr j) = inr j

asks-entering : (n : ℕ) (entered : List ℕ) (asked : List Key) → Asks None entered asked → Asks None (entered_with n entered) (asked ++ Subr n ∷ [])
asks-entering n entered asked h = record { only = λ k i. only k (among asked (Subr n ∷ []) k i); all = all } where
  only : (k : Key) → Includes asked k ⊎ Includes (Subr n ∷ []) k → asks None (entered_with n entered) k ≡ true
  only (Subr k) (inl i) = entered-is n k entered ∙ or_right (n == k) _ (h.only (Subr k) i)
  only (Subr k) (inr (inl e)) = let same : n ≡ k = cc in entered-is n k entered ∙ or_left (n == k) _ (rw same (eq_self k))
  only (Subr k) (inr (inr i)) = absurd i
  only (Glyph g) (inl i) = h.only (Glyph g) i
  only (Glyph g) (inr (inl e)) = absurd (cc)
  only (Glyph g) (inr (inr i)) = absurd i

  all : (k : Key) → asks None (entered_with n entered) k ≡ true → Includes (asked ++ Subr n ∷ []) k
  all (Subr k) e =
      elim (or_cases (n == k) (list_any (λ m. m == k) entered) (sym (entered-is n k entered) ∙ e)) [
        | inl same ↦ in_second asked (Subr n ∷ []) (Subr k) (inl (ap Subr (same_when n k same)))
        | inr there ↦ in_first asked (Subr n ∷ []) (Subr k) (h.all (Subr k) there)
      ]
  all (Glyph g) e = in_first asked (Subr n ∷ []) (Glyph g) (h.all (Glyph g) e)

subrs-entering : (m : FontBodies) (n : ℕ) (entered : List ℕ) (body : List Command) → m.subrs n ≡ Some body → HasSubrs m entered → HasSubrs m (entered_with n entered)
subrs-entering m n entered body e h k i =
    elim (or_cases (n == k) (list_any (λ m. m == k) entered) (sym (entered-is n k entered) ∙ i)) [
      | inl same ↦ (body, ap m.subrs (sym (same_when n k same)) ∙ e)
      | inr there ↦ h k there
    ]

under-entering : (m : FontBodies) (n : ℕ) (body : List Command) → m.subrs n ≡ Some body → (asked : List Key) (s : State) → Under m asked s
    → Under m (asked ++ Subr n ∷ []) (entering n s)
under-entering m n body e asked s h = record {
  keys = asks-entering n s.entered asked h.keys;
  subrs = subrs-entering m n s.entered body e h.subrs;
  steps = h.steps;
}

-- ---- the parts are asked for last

asks-parts : (c : Composite) (entered : List ℕ) (asked : List Key) → Asks None entered asked
    → Asks (Some c) entered (asked ++ Glyph c.base ∷ Glyph c.accent ∷ [])
asks-parts c entered asked h = record { only = λ k i. only k (among asked parts k i); all = all } where
  parts : List Key
  parts = Glyph c.base ∷ Glyph c.accent ∷ []

  only : (k : Key) → Includes asked k ⊎ Includes parts k → asks (Some c) entered k ≡ true
  only (Subr n) (inl i) = h.only (Subr n) i
  only (Subr n) (inr (inl e)) = absurd (cc)
  only (Subr n) (inr (inr (inl e))) = absurd (cc)
  only (Subr n) (inr (inr (inr i))) = absurd i
  only (Glyph g) (inl i) = let never : false ≡ true = h.only (Glyph g) i in cc
  only (Glyph g) (inr (inl e)) = let same : c.base ≡ g = cc in or_left (bytes_eq c.base g) _ (rw same (bytes_self g))
  only (Glyph g) (inr (inr (inl e))) = let same : c.accent ≡ g = cc in or_right (bytes_eq c.base g) _ (rw same (bytes_self g))
  only (Glyph g) (inr (inr (inr i))) = absurd i

  all : (k : Key) → asks (Some c) entered k ≡ true → Includes (asked ++ parts) k
  all (Subr n) e = in_first asked parts (Subr n) (h.all (Subr n) e)
  all (Glyph g) e =
      in_second asked parts (Glyph g) (elim (or_cases (bytes_eq c.base g) (bytes_eq c.accent g) e) [
        | inl same ↦ inl (ap Glyph (bytes_same c.base g same))
        | inr same ↦ inr (inl (ap Glyph (bytes_same c.accent g same)))
      ])

parts-end : (m : FontBodies) (a : Accent) (base accent : List ℕ) (b t : Option (List Command)) → m.glyphs base ≡ b → m.glyphs accent ≡ t
    → (asked : List Key) (s : State) → Under m asked s
    → Stops m (asked ++ keys_of_names base accent b) (composed (ok_or b F45 >>= (λ _. ok_or t F45 >>= (λ _. Ok (record { base = base; accent = accent; asb = a.asb; adx = a.adx; ady = a.ady })))) s)
parts-end m a base accent None t e f asked s h = tt
parts-end m a base accent (Some b) None e f asked s h = tt
parts-end m a base accent (Some b) (Some t) e f asked s h = record {
  keys = asks-parts (record { base = base; accent = accent; asb = a.asb; adx = a.adx; ady = a.ady }) s.entered asked h.keys;
  subrs = h.subrs;
  parts = ((b, e), (t, f));
  steps = h.steps;
}

names-end : (m : FontBodies) (a : Accent) (base accent : Option (List ℕ)) (asked : List Key) (s : State) → Under m asked s
    → Stops m (asked ++ keys_of_parts m base accent) (composed (ok_or base F44 >>= (λ base'. ok_or accent F44 >>= (λ accent'. ok_or (m.glyphs base') F45 >>= (λ _. ok_or (m.glyphs accent') F45 >>= (λ _. Ok (record { base = base'; accent = accent'; asb = a.asb; adx = a.adx; ady = a.ady })))))) s)
names-end m a None accent asked s h = tt
names-end m a (Some base) None asked s h = tt
names-end m a (Some base) (Some accent) asked s h = parts-end m a base accent (m.glyphs base) (m.glyphs accent) refl refl asked s h

-- ---- words, calls and runs

-- nothing more is asked for
no-more : (m : FontBodies) (asked : List Key) (e : RunEnd) → Stops m asked e → Stops m (asked ++ []) e
no-more m asked e h = subst (λ ks. Stops m ks e) (sym (append-nil asked)) h

under-stepped : (m : FontBodies) (asked : List Key) (s t : State) → Stepped s t → Under m asked s → Under m asked t
under-stepped m asked s t st h = record {
  keys = subst (λ e. Asks None e asked) (sym st.entered) h.keys;
  subrs = subst (HasSubrs m) (sym st.entered) h.subrs;
  steps = st.within;
}

go_on-stops : (m : FontBodies) (next : Runner) (keys : KeysFrom) → Runs m next keys → (asked : List Key) (e : RunEnd) → Stops m asked e
    → Stops m (asked ++ keys_after keys e) (go_on next e)
go_on-stops m next keys runs asked (OutOfWords s) h = runs asked s h
go_on-stops m next keys runs asked (Returned s) h = runs asked s h
go_on-stops m next keys runs asked (Completed composite s) h = no-more m asked (Completed composite s) h
go_on-stops m next keys runs asked (Failed fault) h = tt

act-stops : (m : FontBodies) (levels : ℕ) (inside : ℕ → KeysFrom) (next : Runner) (keys : KeysFrom)
    → Calls m (call_within m levels) inside → Runs m next keys → (asked : List Key) (s : State) (t : Step)
    → Leaves (Stepped s) t → Under m asked s → Stops m (asked ++ keys_of_step m levels inside keys t) (act m (call_within m levels) next t)
act-stops m levels inside next keys calls runs asked s (Next t) st h = runs asked t (under-stepped m asked s t st h)
act-stops m levels inside next keys calls runs asked s (Call n t) st h =
    let stop = call_within m levels n t in
    let called = calls n asked t (under-stepped m asked s t st h) in
    let all = go_on-stops m next keys runs ((asked ++ Subr n ∷ []) ++ inside n t) stop called in
    let after = keys_after keys stop in
    subst (λ ks. Stops m ks (go_on next stop)) (append_assoc (asked ++ Subr n ∷ []) (inside n t) after ∙ append_assoc asked (Subr n ∷ []) (inside n t ++ after)) all
act-stops m levels inside next keys calls runs asked s (Back t) st h = no-more m asked (Returned t) (under-stepped m asked s t st h)
act-stops m levels inside next keys calls runs asked s (End t) st h =
    let u = under-stepped m asked s t st h in
    no-more m asked (Completed None t) (record { keys = u.keys; subrs = u.subrs; parts = tt; steps = u.steps })
act-stops m levels inside next keys calls runs asked s (Compose a t) st h =
    names-end m a (standard_glyph a.base) (standard_glyph a.accent) asked t (under-stepped m asked s t st h)
act-stops m levels inside next keys calls runs asked s (Fault fault) st h = tt

words-stop : (m : FontBodies) (levels : ℕ) (inside : ℕ → KeysFrom) → Calls m (call_within m levels) inside → (cs : List Command)
    → Runs m (run_words m (call_within m levels) cs) (keys_of_words m levels inside cs)
words-stop m levels inside calls [] asked s h = no-more m asked (OutOfWords s) h
words-stop m levels inside calls (c ∷ cs) asked s h =
    act-stops m levels inside (run_words m (call_within m levels) cs) (keys_of_words m levels inside cs) calls (words-stop m levels inside calls cs)
    asked s (step c s) (step-leaves c s) h

called-stops : (m : FontBodies) (run : List Command → Runner) (keys : List Command → KeysFrom) → ((body : List Command) → Runs m (run body) (keys body))
    → (n : ℕ) (b : Option (List Command)) → m.subrs n ≡ b → (asked : List Key) (s : State) → Under m asked s
    → Stops m ((asked ++ Subr n ∷ []) ++ keys_of_body keys b n s) (called run b n s)
called-stops m run keys runs n None e asked s h = tt
called-stops m run keys runs n (Some body) e asked s h = runs body (asked ++ Subr n ∷ []) (entering n s) (under-entering m n body e asked s h)

-- where no Subr more may be active, a call is a fault
too-deep : (m : FontBodies) (b : Option (List Command)) (n : ℕ) (asked : List Key) (s : State) → Stops m asked (called too_deep b n s)
too-deep m None n asked s = tt
too-deep m (Some body) n asked s = tt

call_within-stops : (m : FontBodies) (levels : ℕ) → Calls m (call_within m levels) (keys_of_call m levels)
call_within-stops m zero n asked s h = too-deep m (m.subrs n) n ((asked ++ Subr n ∷ []) ++ []) s
call_within-stops m (suc levels) n asked s h =
    called-stops m (run_words m (call_within m levels)) (keys_of_words m levels (keys_of_call m levels))
    (words-stop m levels (keys_of_call m levels) (call_within-stops m levels)) n (m.subrs n) refl asked s h

none-asked : Asks None [] []
none-asked = record { only = only; all = all } where
  only : (k : Key) → Includes [] k → asks None [] k ≡ true
  only k i = absurd i

  all : (k : Key) → asks None [] k ≡ true → Includes [] k
  all (Subr n) e = let never : false ≡ true = e in absurd (cc)
  all (Glyph g) e = let never : false ≡ true = e in absurd (cc)

body-stops : (m : FontBodies) (body : List Command) → Stops m (keys_of_words m 10 (keys_of_call m 10) body initial) (body_stop m body)
unfolding body_stop
body-stops m body = words-stop m 10 (keys_of_call m 10) (call_within-stops m 10) body [] initial start where
  start : Under m [] initial
  start = record { keys = none-asked; subrs = λ n e. let never : false ≡ true = e in absurd (cc); steps = omega arith }

-- ---- what a drawing says

record Reported (m : FontBodies) (d : Drawing) (asked : List Key) : Type 0 where
  keys : Asks d.composite d.entered asked
  subrs : HasSubrs m d.entered
  parts : HasParts m d.composite
  steps : d.steps ≤ 100000

reported-metric : (m : FontBodies) (metric : Option Metric) (composite : Option Composite) (asked : List Key) (s : State) (d : Drawing)
    → Over m composite asked s → drawing_of metric composite s ≡ Ok d → Reported m d asked
reported-metric m None composite asked s d h e = absurd (cc)
reported-metric m (Some metric) composite asked s d h e =
    let same : record { width = metric.width; bearing = metric.bearing; segments = s.segments; composite = composite; entered = s.entered; steps = s.steps } ≡ d = cc in
    subst (λ d'. Reported m d' asked) same (record { keys = h.keys; subrs = h.subrs; parts = h.parts; steps = h.steps })

reported-stop : (m : FontBodies) (asked : List Key) (e : RunEnd) (d : Drawing) → Stops m asked e → outcome_of e ≡ Ok d → Reported m d asked
reported-stop m asked (OutOfWords s) d h e = absurd (cc)
reported-stop m asked (Returned s) d h e = absurd (cc)
reported-stop m asked (Completed composite s) d h e = reported-metric m s.metric composite asked s d h e
reported-stop m asked (Failed fault) d h e = absurd (cc)

reported-body : (m : FontBodies) (b : Option (List Command)) (d : Drawing) → own_of m b ≡ Some (Ok d) → Reported m d (asked_of m b)
reported-body m None d e = absurd (cc)
reported-body m (Some body) d e = reported-stop m (asked_of m (Some body)) (body_stop m body) d (body-stops m body) (cc)

reported-own : (m : FontBodies) (g : List ℕ) (d : Drawing) → own m g ≡ Some (Ok d) → Reported m d (asked_of m (m.glyphs g))
unfolding own
reported-own m g d e = reported-body m (m.glyphs g) d e

-- ---- the laws

uses-all : (g : List ℕ) (d : Drawing) (asked : List Key) → Asks d.composite d.entered asked
    → (k : Key) → Includes (Glyph g ∷ asked) k ↔ (uses g d k ≡ true)
uses-all g d asked h (Subr n) = (only, λ e. inr (h.all (Subr n) e)) where
  only : Includes (Glyph g ∷ asked) (Subr n) → uses g d (Subr n) ≡ true
  only (inl e) = absurd (cc)
  only (inr i) = h.only (Subr n) i
uses-all g d asked h (Glyph x) = (only, all) where
  only : Includes (Glyph g ∷ asked) (Glyph x) → uses g d (Glyph x) ≡ true
  only (inl e) = let same : g ≡ x = cc in or_left (bytes_eq g x) _ (rw same (bytes_self x))
  only (inr i) = or_right (bytes_eq g x) _ (h.only (Glyph x) i)

  all : uses g d (Glyph x) ≡ true → Includes (Glyph g ∷ asked) (Glyph x)
  all e =
      elim (or_cases (bytes_eq g x) (asks d.composite d.entered (Glyph x)) e) [
        | inl same ↦ inl (ap Glyph (bytes_same g x same))
        | inr part ↦ inr (h.all (Glyph x) part)
      ]

pub exact : ExactLaw
unfolding foot
exact m g d e k = uses-all g d (asked_of m (m.glyphs g)) (reported-own m g d e).keys k

pub parts_there : PartsLaw
parts_there m g d e = (reported-own m g d e).parts

pub subrs_there : (m : FontBodies) (g : List ℕ) (d : Drawing) → own m g ≡ Some (Ok d) → HasSubrs m d.entered
subrs_there m g d e = (reported-own m g d e).subrs

pub steps_within : (m : FontBodies) (g : List ℕ) (d : Drawing) → own m g ≡ Some (Ok d) → d.steps ≤ 100000
steps_within m g d e = (reported-own m g d e).steps
