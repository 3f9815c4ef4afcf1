-- A run depends on the bodies that it asks for, and on no others.
use Rattle.std.proofs.Common.{◌≡◌, ℕ, zero, suc, List, [], ◌∷◌, ◌++◌, refl, sym, ◌∙◌, ap, Option, Some, None, inl, inr}
use Rattle.std.specs.Prelude.{Result, Ok}
use Rattle.std.specs.Option.{ok_or}
use Rattle.t1_frac.specs.Outcome.{◌>>=◌}
use Rattle.t1_frac.specs.declared.fault.Code.{Code}
use Rattle.t1_frac.specs.declared.fault.Code.TheVariants.{F44, F45}
use Rattle.t1_code.specs.declared.command.Command.{Command}
use Rattle.t1_run.specs.declared.outline.Accent.{Accent}
use Rattle.t1_run.specs.declared.outline.Composite.{Composite}
use Rattle.t1_run.specs.State.{State, initial}
use Rattle.t1_run.specs.Step.{Step, Next, Call, Back, End, Compose, Fault}
use Rattle.t1_run.specs.Words.{step}
use Rattle.t1_run.specs.Footprint.{Includes, AgreeOn, FootprintLaw, KeysFrom, keys_after, keys_of_names, keys_of_parts, keys_of_step, keys_of_words, keys_of_body, keys_of_call, asked_of, foot}
use Rattle.t1_run.specs.Run.{FontBodies, Key, Subr, Glyph, RunEnd, OutOfWords, Returned, Completed, Failed, Runner, Caller, go_on, act, run_words, call_within, called, too_deep, composed, standard_glyph, entering, body_stop, own, own_of, outcome_of}

pub agree-part : {m n : FontBodies} {ks ks' : List Key} → AgreeOn m n ks' → ((k : Key) → Includes ks k → Includes ks' k) → AgreeOn m n ks
agree-part h inside = record { same = λ k i. h.same k (inside k i) }

pub in_first : (ks ls : List Key) (k : Key) → Includes ks k → Includes (ks ++ ls) k
in_first [] ls k i = absurd i
in_first (x ∷ ks) ls k (inl e) = inl e
in_first (x ∷ ks) ls k (inr i) = inr (in_first ks ls k i)

pub in_second : (ks ls : List Key) (k : Key) → Includes ls k → Includes (ks ++ ls) k
in_second [] ls k i = i
in_second (x ∷ ks) ls k i = inr (in_second ks ls k i)

-- where the maps agree on all that a run asks, the other run is the same, and asks the same
abbrev pub SameRun : FontBodies → FontBodies → Runner → Runner → KeysFrom → KeysFrom → Type 0
SameRun m n run run' keys keys' = (s : State) → AgreeOn m n (keys s) → (run' s ≡ run s) × (keys' s ≡ keys s)

-- so is a call, where they agree on its Subr too
abbrev pub SameCaller : FontBodies → FontBodies → Caller → Caller → (ℕ → KeysFrom) → (ℕ → KeysFrom) → Type 0
SameCaller m n caller caller' keys keys' =
    (k : ℕ) → m.subrs k ≡ n.subrs k → SameRun m n (caller k) (caller' k) (keys k) (keys' k)

-- ---- the parts of a composite

-- the parts as they are found, given what the maps have for the base and for the accent
abbrev found : Accent → List ℕ → List ℕ → Option (List Command) → Option (List Command) → Result Composite Code
found a base accent b t =
    ok_or b F45 >>= (λ _. ok_or t F45 >>= (λ _. Ok (record { base = base; accent = accent; asb = a.asb; adx = a.adx; ady = a.ady })))

accent-same : {m n : FontBodies} (a : Accent) (base accent : List ℕ) (b : Option (List Command)) → AgreeOn m n (keys_of_names base accent b)
    → found a base accent b (n.glyphs accent) ≡ found a base accent b (m.glyphs accent)
accent-same a base accent None h = refl
accent-same a base accent (Some b) h = ap (found a base accent (Some b)) (sym (h.same (Glyph accent) (inr (inl refl))))

in-names : (base accent : List ℕ) (b : Option (List Command)) → Includes (keys_of_names base accent b) (Glyph base)
in-names base accent None = inl refl
in-names base accent (Some b) = inl refl

-- the parts by their names, where both codes have one
abbrev named : FontBodies → Accent → Option (List ℕ) → Option (List ℕ) → Result Composite Code
named m a base accent = ok_or base F44 >>= (λ base'. ok_or accent F44 >>= (λ accent'. found a base' accent' (m.glyphs base') (m.glyphs accent')))

names-same : {m n : FontBodies} (a : Accent) (base accent : Option (List ℕ)) → AgreeOn m n (keys_of_parts m base accent)
    → (named n a base accent ≡ named m a base accent) × (keys_of_parts n base accent ≡ keys_of_parts m base accent)
names-same a None accent h = (refl, refl)
names-same a (Some base) None h = (refl, refl)
names-same {m = m} {n = n} a (Some base) (Some accent) h =
    let e = sym (h.same (Glyph base) (in-names base accent (m.glyphs base))) in (
      ap (λ b. found a base accent b (n.glyphs accent)) e ∙ accent-same {m = m} {n = n} a base accent (m.glyphs base) h,
      ap (keys_of_names base accent) e,
    )

-- ---- words and calls

go_on-same : {m n : FontBodies} (next next' : Runner) (keys keys' : KeysFrom) → SameRun m n next next' keys keys' → (e : RunEnd)
    → AgreeOn m n (keys_after keys e) → (go_on next' e ≡ go_on next e) × (keys_after keys' e ≡ keys_after keys e)
go_on-same next next' keys keys' same (OutOfWords s) h = same s h
go_on-same next next' keys keys' same (Returned s) h = same s h
go_on-same next next' keys keys' same (Completed composite s) h = (refl, refl)
go_on-same next next' keys keys' same (Failed fault) h = (refl, refl)

act-same : (m n : FontBodies) (levels : ℕ) (inside inside' : ℕ → KeysFrom) (next next' : Runner) (keys keys' : KeysFrom)
    → SameCaller m n (call_within m levels) (call_within n levels) inside inside' → SameRun m n next next' keys keys'
    → (t : Step) → AgreeOn m n (keys_of_step m levels inside keys t)
    → (act n (call_within n levels) next' t ≡ act m (call_within m levels) next t)
    × (keys_of_step n levels inside' keys' t ≡ keys_of_step m levels inside keys t)
act-same m n levels inside inside' next next' keys keys' calls same (Next s) h = same s h
act-same m n levels inside inside' next next' keys keys' calls same (Call k s) h =
    let stop = call_within m levels k s in
    let call = calls k (h.same (Subr k) (inl refl)) s (agree-part h (λ x i. inr (in_first (inside k s) (keys_after keys stop) x i))) in
    let after = go_on-same next next' keys keys' same stop (agree-part h (λ x i. inr (in_second (inside k s) (keys_after keys stop) x i))) in (
      ap (go_on next') call.0 ∙ after.0,
      ap (λ e. Subr k ∷ (inside' k s ++ keys_after keys' e)) call.0
          ∙ ap (λ ks. Subr k ∷ (inside' k s ++ ks)) after.1
          ∙ ap (λ ks. Subr k ∷ (ks ++ keys_after keys stop)) call.1,
    )
act-same m n levels inside inside' next next' keys keys' calls same (Back s) h = (refl, refl)
act-same m n levels inside inside' next next' keys keys' calls same (End s) h = (refl, refl)
act-same m n levels inside inside' next next' keys keys' calls same (Compose a s) h =
    let parts = names-same {m = m} {n = n} a (standard_glyph a.base) (standard_glyph a.accent) h in
    (ap (λ r. composed r s) parts.0, parts.1)
act-same m n levels inside inside' next next' keys keys' calls same (Fault fault) h = (refl, refl)

words-same : (m n : FontBodies) (levels : ℕ) (inside inside' : ℕ → KeysFrom)
    → SameCaller m n (call_within m levels) (call_within n levels) inside inside' → (cs : List Command)
    → SameRun m n (run_words m (call_within m levels) cs) (run_words n (call_within n levels) cs) (keys_of_words m levels inside cs) (keys_of_words n levels inside' cs)
words-same m n levels inside inside' calls [] s h = (refl, refl)
words-same m n levels inside inside' calls (c ∷ cs) s h =
    act-same m n levels inside inside' (run_words m (call_within m levels) cs) (run_words n (call_within n levels) cs)
    (keys_of_words m levels inside cs) (keys_of_words n levels inside' cs) calls (words-same m n levels inside inside' calls cs) (step c s) h

called-same : {m n : FontBodies} (run run' : List Command → Runner) (keys keys' : List Command → KeysFrom)
    → ((body : List Command) → SameRun m n (run body) (run' body) (keys body) (keys' body))
    → (b : Option (List Command)) (k : ℕ) → SameRun m n (called run b k) (called run' b k) (keys_of_body keys b k) (keys_of_body keys' b k)
called-same run run' keys keys' same None k s h = (refl, refl)
called-same run run' keys keys' same (Some body) k s h = same body (entering k s) h

call_within-same : (m n : FontBodies) (levels : ℕ) → SameCaller m n (call_within m levels) (call_within n levels) (keys_of_call m levels) (keys_of_call n levels)
call_within-same m n zero k e s h = (ap (λ b. called too_deep b k s) (sym e), refl)
call_within-same m n (suc levels) k e s h =
    let same = called-same (run_words m (call_within m levels)) (run_words n (call_within n levels))
    (keys_of_words m levels (keys_of_call m levels)) (keys_of_words n levels (keys_of_call n levels))
    (words-same m n levels (keys_of_call m levels) (keys_of_call n levels) (call_within-same m n levels)) (m.subrs k) k s h in (
      ap (λ b. called (run_words n (call_within n levels)) b k s) (sym e) ∙ same.0,
      ap (λ b. keys_of_body (keys_of_words n levels (keys_of_call n levels)) b k s) (sym e) ∙ same.1,
    )

-- where the maps agree on all that a body's run asks, the run is the same, with what it asks
body-same : (m n : FontBodies) (b : Option (List Command)) → AgreeOn m n (asked_of m b) → (own_of n b ≡ own_of m b) × (asked_of n b ≡ asked_of m b)
unfolding body_stop
body-same m n None h = (refl, refl)
body-same m n (Some body) h =
    let same = words-same m n 10 (keys_of_call m 10) (keys_of_call n 10) (call_within-same m n 10) body initial h in
    (ap (λ e. Some (outcome_of e)) same.0, same.1)

-- the law: a glyph's outcome and footprint are those of the maps at the footprint
pub own_same : FootprintLaw
unfolding own foot
own_same m n g h =
    let p = body-same m n (m.glyphs g) (agree-part h (λ k i. inr i)) in
    let e = h.same (Glyph g) (inl refl) in
    (ap (own_of n) (sym e) ∙ p.0, ap (λ b. Glyph g ∷ asked_of n b) (sym e) ∙ ap (λ ks. Glyph g ∷ ks) p.1)
