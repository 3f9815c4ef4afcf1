-- A run with a stack of waiting bodies is the run that recurses.
use Rattle.std.proofs.Common.{◌≡◌, ℕ, zero, suc, ◌+◌, ◌<◌, ◌≤◌, List, [], ◌∷◌, length, refl, subst, sym, ◌∙◌, ap, arith, Option, Some, None}
use Rattle.std.specs.Borrow.{Bor}
use Rattle.std.specs.Option.{ok_or}
use Rattle.std.specs.Prelude.{Result, Ok, Err}
use Rattle.t1_frac.specs.Outcome.{Refuses, reported_at, fault_at}
use Rattle.t1_frac.specs.declared.fault.Code.{Code}
use Rattle.t1_frac.specs.declared.fault.Code.TheVariants.{F32, F33, F34, F35}
use Rattle.t1_frac.specs.declared.fault.Place.TheVariants.{Nowhere}
use Rattle.t1_frac.specs.declared.fault.Refusal.{Refusal}
use Rattle.t1_frac.specs.declared.fault.Refusal.TheVariants as refusals
use Rattle.t1_code.specs.declared.command.Command.{Command}
use Rattle.t1_run.specs.declared.halt.Halt.{Halt}
use Rattle.t1_run.specs.declared.halt.Halt.TheVariants as halts
use Rattle.t1_run.specs.declared.outline.Accent.{Accent}
use Rattle.t1_run.specs.declared.outline.Composite.{Composite}
use Rattle.t1_run.specs.declared.state.Control.{Control}
use Rattle.t1_run.specs.declared.state.State.{State as StateFields}
use Rattle.t1_run.specs.State.{State, initial}
use Rattle.t1_run.specs.Step.{Next, Call, Back, End, Compose, Fault}
use Rattle.t1_run.specs.Words.{step}
use Rattle.t1_run.specs.Machine.{RefusesStep, refusal_by, state_of}
use Rattle.t1_run.specs.Continuing.{Asks, Comes, Continues, Meets, resume}
use Rattle.t1_run.specs.Run.{FontBodies, Completed, Failed, go_on, act, run_words, call_within, called, too_deep, composed, composite_of, runs, entering, body_stop, drawing_of, outcome_of}

resume-completed : (m : FontBodies) (levels : ℕ) (waiting : List (List Command)) (composite : Option Composite) (s : State)
    → resume m levels waiting (Completed composite s) ≡ Completed composite s
resume-completed m levels [] composite s = refl
resume-completed m levels (rest ∷ waiting) composite s = resume-completed m (suc levels) waiting composite s

resume-failed : (m : FontBodies) (levels : ℕ) (waiting : List (List Command)) (fault : Code)
    → resume m levels waiting (Failed fault) ≡ Failed fault
resume-failed m levels [] fault = refl
resume-failed m levels (rest ∷ waiting) fault = resume-failed m (suc levels) waiting fault

-- ---- the same rest, by another name

pub at_rest : {m : FontBodies} {body rest rest' : List Command} {waiting : List (List Command)} {s : State}
    → Continues m body rest waiting s → rest ≡ rest' → Continues m body rest' waiting s
at_rest {m = m} {body = body} {waiting = waiting} {s = s} h e = subst (λ r. Continues m body r waiting s) e h

pub at_waiting : {m : FontBodies} {body rest : List Command} {waiting waiting' : List (List Command)} {s : State}
    → Continues m body rest waiting s → waiting ≡ waiting' → Continues m body rest waiting' s
at_waiting {m = m} {body = body} {rest = rest} {s = s} h e = subst (λ w. Continues m body rest w s) e h

-- ---- the run goes on

pub Continues-start : (m : FontBodies) (body : List Command) → Continues m body body [] initial
unfolding body_stop
Continues-start m body = record { levels = 10; room = refl; same = refl }

pub Continues-back : {m : FontBodies} {body cs rest : List Command} {waiting : List (List Command)} {s s' : State} {c : Command}
    → Continues m body (c ∷ cs) (rest ∷ waiting) s → step c s ≡ Back s' → Continues m body rest waiting s'
Continues-back {m = m} {cs = cs} {rest = rest} {waiting = waiting} {s' = s'} h e = record {
  levels = suc h.levels;
  room = omega (arith, h.room);
  same = sym (ap (λ t. resume m h.levels (rest ∷ waiting) (act m (call_within m h.levels) (runs m h.levels cs) t)) e) ∙ h.same;
}

pub Continues-next : {m : FontBodies} {body cs : List Command} {waiting : List (List Command)} {s s' : State} {c : Command}
    → Continues m body (c ∷ cs) waiting s → step c s ≡ Next s' → Continues m body cs waiting s'
Continues-next {m = m} {cs = cs} {waiting = waiting} {s' = s'} h e = record {
  levels = h.levels;
  room = h.room;
  same = sym (ap (λ t. resume m h.levels waiting (act m (call_within m h.levels) (runs m h.levels cs) t)) e) ∙ h.same;
}

-- a call of a Subr that the maps have, with room for it
call_at : (m : FontBodies) (body cs sub : List Command) (waiting : List (List Command)) (s s' : State) (c : Command) (n : ℕ)
    (levels : ℕ) → levels + length waiting ≡ 10
    → resume m levels waiting (runs m levels (c ∷ cs) s) ≡ body_stop m body
    → step c s ≡ Call n s' → m.subrs n ≡ Some sub → length waiting < 10
    → Continues m body sub (cs ∷ waiting) (entering n s')
call_at m body cs sub waiting s s' c n zero room same e found fits = absurd (omega arith)
call_at m body cs sub waiting s s' c n (suc levels) room same e found fits = record {
  levels = levels;
  room = omega arith;
  same =
      sym (ap (λ t. resume m (suc levels) waiting (act m (call_within m (suc levels)) (runs m (suc levels) cs) t)) e
      ∙ ap (λ b. resume m (suc levels) waiting
      (go_on (runs m (suc levels) cs) (called (run_words m (call_within m levels)) b n s'))) found)
      ∙ same;
}

pub Continues-call : {m : FontBodies} {body cs sub : List Command} {waiting : List (List Command)} {s s' : State} {c : Command} {n : ℕ}
    → Continues m body (c ∷ cs) waiting s → step c s ≡ Call n s' → m.subrs n ≡ Some sub → length waiting < 10
    → Continues m body sub (cs ∷ waiting) (entering n s')
Continues-call {m = m} {body = body} {cs = cs} {sub = sub} {waiting = waiting} {s = s} {s' = s'} {c = c} {n = n} h e found fits =
    call_at m body cs sub waiting s s' c n h.levels h.room h.same e found fits

-- what stands in the place of a value that isn't there
pub lacking : {X : Type 0} (o : Option X) (code found : Code) → Err found ≡ ok_or o code → (o ≡ None) × (found ≡ code)
lacking None code found e = (refl, cc)
lacking (Some x) code found e = absurd (cc)

-- the run came to a command that asks for this
pub asks_for : {m : FontBodies} {body : List Command} {waiting : List (List Command)} {found : Option (Control × Bor (List Command))}
    {control asked : Control} {rest : Bor (List Command)} (s : StateFields)
    → Comes m body waiting (Ok found) s → found ≡ Some (control, rest) → control ≡ asked → Asks m body rest.now waiting asked (state_of s)
asks_for {m = m} {body = body} {waiting = waiting} {rest = rest} s h is e =
    subst (λ c. Asks m body rest.now waiting c (state_of s)) e (subst (λ f. Comes m body waiting (Ok f) s) is h)

-- ---- the run is over

pub outcome-end : {m : FontBodies} {body cs : List Command} {waiting : List (List Command)} {s s' : State} {c : Command}
    → Continues m body (c ∷ cs) waiting s → step c s ≡ End s' → outcome_of (body_stop m body) ≡ drawing_of s'.metric None s'
outcome-end {m = m} {cs = cs} {waiting = waiting} {s' = s'} h e =
    ap outcome_of (sym h.same
    ∙ ap (λ t. resume m h.levels waiting (act m (call_within m h.levels) (runs m h.levels cs) t)) e
    ∙ resume-completed m h.levels waiting None s')

pub outcome-fault : {m : FontBodies} {body cs : List Command} {waiting : List (List Command)} {s : State} {c : Command} {fault : Code}
    → Continues m body (c ∷ cs) waiting s → step c s ≡ Fault fault → outcome_of (body_stop m body) ≡ Err fault
outcome-fault {m = m} {cs = cs} {waiting = waiting} {fault = fault} h e =
    ap outcome_of (sym h.same
    ∙ ap (λ t. resume m h.levels waiting (act m (call_within m h.levels) (runs m h.levels cs) t)) e
    ∙ resume-failed m h.levels waiting fault)

-- the last word of the glyph's own body, and a return there
pub outcome-over : {m : FontBodies} {body : List Command} {s : State} → Continues m body [] [] s → outcome_of (body_stop m body) ≡ Err F35
outcome-over h = ap outcome_of (sym h.same)

pub outcome-back : {m : FontBodies} {body cs : List Command} {s s' : State} {c : Command}
    → Continues m body (c ∷ cs) [] s → step c s ≡ Back s' → outcome_of (body_stop m body) ≡ Err F34
outcome-back {m = m} {cs = cs} h e =
    ap outcome_of (sym h.same ∙ ap (λ t. act m (call_within m h.levels) (runs m h.levels cs) t) e)

-- a call, where so many levels are left, of a Subr that the maps lack
missing_at : (m : FontBodies) (body cs : List Command) (waiting : List (List Command)) (s s' : State) (c : Command) (n : ℕ)
    (levels : ℕ) → resume m levels waiting (runs m levels (c ∷ cs) s) ≡ body_stop m body
    → step c s ≡ Call n s' → m.subrs n ≡ None → outcome_of (body_stop m body) ≡ Err F32
missing_at m body cs waiting s s' c n zero same e found =
    ap outcome_of (sym same
    ∙ ap (λ t. resume m zero waiting (act m (call_within m zero) (runs m zero cs) t)) e
    ∙ ap (λ b. resume m zero waiting
    (go_on (runs m zero cs) (called too_deep b n s'))) found
    ∙ resume-failed m zero waiting F32)
missing_at m body cs waiting s s' c n (suc levels) same e found =
    ap outcome_of (sym same
    ∙ ap (λ t. resume m (suc levels) waiting (act m (call_within m (suc levels)) (runs m (suc levels) cs) t)) e
    ∙ ap (λ b. resume m (suc levels) waiting
    (go_on (runs m (suc levels) cs) (called (run_words m (call_within m levels)) b n s'))) found
    ∙ resume-failed m (suc levels) waiting F32)

pub outcome-missing : {m : FontBodies} {body cs : List Command} {waiting : List (List Command)} {s s' : State} {c : Command} {n : ℕ}
    → Continues m body (c ∷ cs) waiting s → step c s ≡ Call n s' → m.subrs n ≡ None → outcome_of (body_stop m body) ≡ Err F32
outcome-missing {m = m} {body = body} {cs = cs} {waiting = waiting} {s = s} {s' = s'} {c = c} {n = n} h e found =
    missing_at m body cs waiting s s' c n h.levels h.same e found

-- a call where ten Subrs are active
full_at : (m : FontBodies) (body cs sub : List Command) (waiting : List (List Command)) (s s' : State) (c : Command) (n : ℕ)
    (levels : ℕ) → levels + length waiting ≡ 10
    → resume m levels waiting (runs m levels (c ∷ cs) s) ≡ body_stop m body
    → step c s ≡ Call n s' → m.subrs n ≡ Some sub → 10 ≤ length waiting → outcome_of (body_stop m body) ≡ Err F33
full_at m body cs sub waiting s s' c n (suc levels) room same e found full = absurd (omega arith)
full_at m body cs sub waiting s s' c n zero room same e found full =
    ap outcome_of (sym same
    ∙ ap (λ t. resume m zero waiting (act m (call_within m zero) (runs m zero cs) t)) e
    ∙ ap (λ b. resume m zero waiting
    (go_on (runs m zero cs) (called too_deep b n s'))) found
    ∙ resume-failed m zero waiting F33)

pub outcome-full : {m : FontBodies} {body cs sub : List Command} {waiting : List (List Command)} {s s' : State} {c : Command} {n : ℕ}
    → Continues m body (c ∷ cs) waiting s → step c s ≡ Call n s' → m.subrs n ≡ Some sub → 10 ≤ length waiting
    → outcome_of (body_stop m body) ≡ Err F33
outcome-full {m = m} {body = body} {cs = cs} {sub = sub} {waiting = waiting} {s = s} {s' = s'} {c = c} {n = n} h e found full =
    full_at m body cs sub waiting s s' c n h.levels h.room h.same e found full

-- a composite, where its parts are there, and where one isn't
pub outcome-compose : {m : FontBodies} {body cs : List Command} {waiting : List (List Command)} {s s' : State} {c : Command} {a : Accent} {parts : Composite}
    → Continues m body (c ∷ cs) waiting s → step c s ≡ Compose a s' → composite_of m.glyphs a ≡ Ok parts
    → outcome_of (body_stop m body) ≡ drawing_of s'.metric (Some parts) s'
outcome-compose {m = m} {cs = cs} {waiting = waiting} {s' = s'} {a = a} {parts = parts} h e found =
    ap outcome_of (sym h.same
    ∙ ap (λ t. resume m h.levels waiting (act m (call_within m h.levels) (runs m h.levels cs) t)) e
    ∙ ap (λ r. resume m h.levels waiting (composed r s')) found
    ∙ resume-completed m h.levels waiting (Some parts) s')

pub outcome-partless : {m : FontBodies} {body cs : List Command} {waiting : List (List Command)} {s s' : State} {c : Command} {a : Accent} {fault : Code}
    → Continues m body (c ∷ cs) waiting s → step c s ≡ Compose a s' → composite_of m.glyphs a ≡ Err fault
    → outcome_of (body_stop m body) ≡ Err fault
outcome-partless {m = m} {cs = cs} {waiting = waiting} {s' = s'} {a = a} {fault = fault} h e found =
    ap outcome_of (sym h.same
    ∙ ap (λ t. resume m h.levels waiting (act m (call_within m h.levels) (runs m h.levels cs) t)) e
    ∙ ap (λ r. resume m h.levels waiting (composed r s')) found
    ∙ resume-failed m h.levels waiting fault)

-- ---- what refuses a word, or the search for parts, refuses the run

pub refused-step : {m : FontBodies} {body cs : List Command} {waiting : List (List Command)} {s : State} {c : Command} (halt : Halt)
    → Continues m body (c ∷ cs) waiting s → RefusesStep halt (step c s) → Refuses (refusal_by halt) (reported_at Nowhere (outcome_of (body_stop m body)))
refused-step halts.Memory h e = tt
refused-step (halts.Fault code) h e = ap (reported_at Nowhere) (outcome-fault h e)

refused_at : {m : FontBodies} {body cs : List Command} {waiting : List (List Command)} {s s' : State} {c : Command} {a : Accent}
    → Continues m body (c ∷ cs) waiting s → step c s ≡ Compose a s' → (r : Result Composite Code) → composite_of m.glyphs a ≡ r
    → (refusal : Refusal) → Refuses refusal (reported_at Nowhere r) → Refuses refusal (reported_at Nowhere (outcome_of (body_stop m body)))
refused_at h e r found refusals.Memory refused = tt
refused_at h e (Ok parts) found (refusals.Fault f) refused = absurd (cc)
refused_at h e (Err fault) found (refusals.Fault f) refused =
    let same : fault_at Nowhere fault ≡ f = cc in
    ap (reported_at Nowhere) (outcome-partless h e found) ∙ ap Err same

pub refused-parts : {m : FontBodies} {body cs : List Command} {waiting : List (List Command)} {s s' : State} {c : Command} {a : Accent} (refusal : Refusal)
    → Continues m body (c ∷ cs) waiting s → step c s ≡ Compose a s' → Refuses refusal (reported_at Nowhere (composite_of m.glyphs a))
    → Refuses refusal (reported_at Nowhere (outcome_of (body_stop m body)))
refused-parts {m = m} {a = a} refusal h e refused = refused_at h e (composite_of m.glyphs a) refl refusal refused

-- ---- the run has come to a command that is refused

pub meets : {m : FontBodies} {body others rest : List Command} {waiting : List (List Command)} {s : State} {c : Command} (halt : Halt)
    → Continues m body others waiting s → others ≡ c ∷ rest → RefusesStep halt (step c s) → Meets m body waiting (refusal_by halt)
meets {rest = rest} {s = s} {c = c} halt h e refused =
    record { command = c; before = s; rest = rest; here = at_rest h e; halt = halt; by = refl; is = refused }
