-- A run that is followed word by word is the run that recurses.
use Rattle.std.proofs.Common.{◌≡◌, ℕ, zero, suc, ◌+◌, ◌-◌, ◌<◌, List, ◌∷◌, length, Option, Some, None, refl, sym, ◌∙◌, ap, inl, inr, true, arith}
use Rattle.std.proofs.lemmas.Bool.{cases_Bool}
use Rattle.std.proofs.lemmas.Bool.Decides.{nat_tests}
use Rattle.std.specs.Prelude.{◌==◌, Result, Ok, Err, IsSome}
use Rattle.std.specs.Result.{result_err}
use Rattle.t1_frac.specs.declared.fault.Code.{Code}
use Rattle.t1_code.specs.declared.command.Command.{Command}
use Rattle.t1_run.specs.declared.outline.Composite.{Composite}
use Rattle.t1_run.specs.declared.state.Control.{Control}
use Rattle.t1_run.specs.declared.state.Control.TheVariants as controls
use Rattle.t1_run.specs.Machine.{asked_step}
use Rattle.t1_run.specs.Run.{FontBodies, composite_of, entering}
use Rattle.t1_run.specs.State.{State}
use Rattle.t1_run.specs.Step.{Next, Fault}
use Rattle.t1_run.specs.Words.{step}
use Rattle.t1_chain.specs.Details.{detail_of}
use Rattle.t1_chain.specs.Failing.{Completed, Failed, Failure, Follower, follow_step, followed_within, followed_call, called_at, followed_composite, endings, failure_at, fails_at, caller_goes_on, words_from}
use Rattle.t1_chain.specs.Machine.{Acts, MayEnter, Notes, asked_by, after_asked, ending_of, ending_or, refused_call, refused_control, failure_seen}
use Rattle.t1_chain.specs.declared.ending.Asked.TheVariants.{Word, Subr, Over}
use Rattle.t1_chain.specs.declared.ending.Ending.{Ending as EndingFields}
use Rattle.t1_chain.specs.declared.ending.Ending.TheVariants as stops
use Rattle.t1_chain.specs.declared.failure.Failure.{Failure as FailureFields}
use Rattle.t1_chain.specs.declared.noted.Noted.{Noted}

-- what is left of a body stops as the whole body does from where it began
abbrev pub Left : FontBodies → ℕ → List Command → State → ℕ → List Command → State → Type 0
Left m levels body before word rest s = words_from m (followed_within m levels) word rest s ≡ endings m levels body before

-- ---- a word

pub acts-next : (m : FontBodies) (levels word : ℕ) (c : Command) (s s' : State) → step c s ≡ Next s' → Acts m levels word c Word s s'
acts-next m levels word c s s' e = λ next. ap (follow_step m (followed_within m levels) (fails_at m word c s) word next) e

-- the failure at a word, by what was noted before it
failed-at : (m : FontBodies) (word : ℕ) (c : Command) (s : State) (noted : Noted) (code : Code) (failure : FailureFields) → Notes noted s
    → failure_seen failure ≡ failure_at word (detail_of m.glyphs code c noted.stack.items noted.points) code → Failed (fails_at m word c s code) ≡ Failed (failure_seen failure)
failed-at m word c s noted code failure notes is =
    ap Failed
    (sym (is ∙ ap (λ v. failure_at word (detail_of m.glyphs code c v noted.points) code) notes.0 ∙ ap (λ v. failure_at word (detail_of m.glyphs code c s.stack v) code) notes.1))

pub acts-failed : (m : FontBodies) (levels word : ℕ) (c : Command) (s s' : State) (noted : Noted) (code : Code) (failure : FailureFields)
    → step c s ≡ Fault code → Notes noted s → failure_seen failure ≡ failure_at word (detail_of m.glyphs code c noted.stack.items noted.points) code
    → Acts m levels word c (Over (stops.Failed failure)) s s'
acts-failed m levels word c s s' noted code failure e notes is = λ next.
    ap (follow_step m (followed_within m levels) (fails_at m word c s) word next) e ∙ failed-at m word c s noted code failure notes is

above-none : (k : ℕ) → (suc k == 0) ≡ true → ⊥
above-none k h = let e : suc k ≡ 0 = grind (arith, nat_tests) in absurd (omega (arith, e))

call-refused : (m : FontBodies) (levels n : ℕ) (s : State) (code : Code) → refused_call levels (m.subrs n) ≡ Some code → followed_within m levels n s ≡ Err code
call-refused m levels n s code h = by levels (m.subrs n) refl h where
  by : (k : ℕ) (body : Option (List Command)) → m.subrs n ≡ body → refused_call k body ≡ Some code → followed_within m k n s ≡ Err code
  by zero None e f = rw e cc
  by (suc k) None e f = rw e cc
  by zero (Some body) e f = rw e cc
  by (suc k) (Some body) e f = elim (cases_Bool (suc k == 0)) [
    | inl t ↦ absurd (above-none k t)
    | inr n ↦ absurd (let g : ◌≡◌ {A = Option Code} None (Some code) = rw n at f in cc)
  ]

-- what the composite's parts refuse
parts-refused : (fails : Code → Failure) (s : State) (r : Result Composite Code) (code : Code) → result_err r ≡ Some code → followed_composite fails s r ≡ Failed (fails code)
parts-refused fails s (Ok c) code h = absurd (cc)
parts-refused fails s (Err found) code h = let same : found ≡ code = cc in ap (λ x. Failed (fails x)) same

control-refused : (m : FontBodies) (levels word : ℕ) (fails : Code → Failure) (next : Follower) (control : Control) (s : State) (code : Code)
    → refused_control m levels control ≡ Some code → follow_step m (followed_within m levels) fails word next (asked_step control s) ≡ Failed (fails code)
control-refused m levels word fails next (controls.Call n) s code h = ap (called_at fails (record { word = word; subr = n }) next) (call-refused m levels n s code h)
control-refused m levels word fails next controls.Back s code h = absurd (cc)
control-refused m levels word fails next controls.End s code h = absurd (cc)
control-refused m levels word fails next (controls.Compose a) s code h = parts-refused fails s (composite_of m.glyphs a) code h

pub acts-refused : (m : FontBodies) (levels word : ℕ) (c : Command) (s s' : State) (noted : Noted) (control : Control) (code : Code) (failure : FailureFields)
    → step c s ≡ asked_step control s' → refused_control m levels control ≡ Some code → Notes noted s
    → failure_seen failure ≡ failure_at word (detail_of m.glyphs code c noted.stack.items noted.points) code → Acts m levels word c (Over (stops.Failed failure)) s s'
acts-refused m levels word c s s' noted control code failure e refused notes is = λ next.
    ap (follow_step m (followed_within m levels) (fails_at m word c s) word next) e
    ∙ control-refused m levels word (fails_at m word c s) next control s' code refused
    ∙ failed-at m word c s noted code failure notes is

parts-found : (fails : Code → Failure) (s : State) (r : Result Composite Code) → result_err r ≡ None → followed_composite fails s r ≡ Completed s
parts-found fails s (Ok c) h = refl
parts-found fails s (Err code) h = absurd (cc)

control-asked : (m : FontBodies) (levels word : ℕ) (fails : Code → Failure) (next : Follower) (control : Control) (s : State)
    → refused_control m levels control ≡ None
    → follow_step m (followed_within m levels) fails word next (asked_step control s) ≡ after_asked (followed_within m levels) fails word next (asked_by word control) s
control-asked m levels word fails next (controls.Call n) s h = refl
control-asked m levels word fails next controls.Back s h = refl
control-asked m levels word fails next controls.End s h = refl
control-asked m levels word fails next (controls.Compose a) s h = parts-found fails s (composite_of m.glyphs a) h

pub acts-asked : (m : FontBodies) (levels word : ℕ) (c : Command) (s s' : State) (control : Control)
    → step c s ≡ asked_step control s' → refused_control m levels control ≡ None → Acts m levels word c (asked_by word control) s s'
acts-asked m levels word c s s' control e none = λ next.
    ap (follow_step m (followed_within m levels) (fails_at m word c s) word next) e ∙ control-asked m levels word (fails_at m word c s) next control s' none

pub may-enter : (m : FontBodies) (levels word : ℕ) (control : Control) → refused_control m levels control ≡ None → MayEnter levels m.subrs (asked_by word control)
may-enter m levels word (controls.Call n) h = by levels (m.subrs n) h where
  by : (k : ℕ) (body : Option (List Command)) → refused_call k body ≡ None → (0 < k) × IsSome body
  by zero None e = absurd (cc)
  by (suc k) None e = absurd (cc)
  by zero (Some body) e = absurd (cc)
  by (suc k) (Some body) e = (omega arith, refl)
may-enter m levels word controls.Back h = tt
may-enter m levels word controls.End h = tt
may-enter m levels word (controls.Compose a) h = tt

-- ---- what is left of a body

pub left-start : (m : FontBodies) (levels : ℕ) (body : List Command) (s : State) → Left m levels body s 0 body s
left-start m levels body s = refl

pub left-next : (m : FontBodies) (levels : ℕ) (body : List Command) (before : State) (word : ℕ) (c : Command) (rest tail : List Command) (s s' : State)
    → Left m levels body before word rest s → rest ≡ c ∷ tail → Acts m levels word c Word s s' → Left m levels body before (word + 1) tail s'
left-next m levels body before word c rest tail s s' h e acts =
    sym (acts (words_from m (followed_within m levels) (word + 1) tail)) ∙ sym (ap (λ r. words_from m (followed_within m levels) word r s) e) ∙ h

pub left-over : (m : FontBodies) (levels : ℕ) (body : List Command) (before : State) (word : ℕ) (c : Command) (rest tail : List Command) (s s' : State)
    (ending : EndingFields) → Left m levels body before word rest s → rest ≡ c ∷ tail → Acts m levels word c (Over ending) s s'
    → endings m levels body before ≡ ending_of ending s'
left-over m levels body before word c rest tail s s' ending h e acts =
    sym h ∙ ap (λ r. words_from m (followed_within m levels) word r s) e ∙ acts (words_from m (followed_within m levels) (word + 1) tail)

pub count-next : (word count : ℕ) (c : Command) (rest tail : List Command) → word + length rest ≡ count → rest ≡ c ∷ tail → word + 1 + length tail ≡ count
count-next word count c rest tail h e = let all = ap length e in omega (arith, h, all)

call-entered : (m : FontBodies) (levels n : ℕ) (followed_call : List Command) (s : State) → 0 < levels → m.subrs n ≡ Some followed_call
    → followed_within m levels n s ≡ Ok (endings m (levels - 1) followed_call (entering n s))
call-entered m zero n followed_call s above e = absurd (omega arith)
call-entered m (suc k) n followed_call s above e =
    let below : suc k - 1 ≡ k = omega arith in
    rw (below, e) refl

-- a call of a Subr: what its end leaves of the run
pub left-called : (m : FontBodies) (levels : ℕ) (body : List Command) (before : State) (word : ℕ) (c : Command) (rest tail : List Command) (s s' t t' : State)
    (n : ℕ) (followed_call : List Command) (ending : EndingFields) (left : Option EndingFields)
    → Left m levels body before word rest s → rest ≡ c ∷ tail → Acts m levels word c (Subr n) s s'
    → 0 < levels → m.subrs n ≡ Some followed_call → t ≡ entering n s' → endings m (levels - 1) followed_call t ≡ ending_of ending t'
    → ((next : Follower) (u : State) → caller_goes_on (record { word = word; subr = n }) next (ending_of ending u) ≡ ending_or next left u)
    → endings m levels body before ≡ ending_or (words_from m (followed_within m levels) (word + 1) tail) left t'
left-called m levels body before word c rest tail s s' t t' n followed_call ending left h e acts above found entered stopped after =
    let next = words_from m (followed_within m levels) (word + 1) tail in
    let call = call-entered m levels n followed_call s' above found ∙ ap Ok (sym (ap (endings m (levels - 1) followed_call) entered) ∙ stopped) in
    sym h ∙ ap (λ r. words_from m (followed_within m levels) word r s) e ∙ acts next
    ∙ ap (called_at (fails_at m word c s) (record { word = word; subr = n }) next) call
    ∙ after next t'
