-- What is kept of the runs that fail, one run after another.
use Rattle.std.proofs.Common.{◌≡◌, ◌∙◌, ℕ, zero, suc, Bool, true, false, cond, ◌&&◌, ◌||◌, ◌+◌, ◌<◌, ◌≤◌, List, [], ◌∷◌, ◌++◌, length, map, take, get_or, set, Option, None, Some, refl, sym, ap, inl, inr, arith}
use Rattle.std.specs.Prelude.{nat_eq, not, is_some, flat_map}
use Rattle.std.specs.List.{AllByRecursion, filter, find, list_any, position_or_len, range_with_len}
use Rattle.std.specs.Option.{option_map, option_or}
use Rattle.std.specs.Str.{bytes_eq}
use Rattle.std.specs.declared.vec.Vec.{Vec}
use Rattle.std.proofs.lemmas.Bool.{cases_Bool}
use Rattle.std.proofs.lemmas.Bool.Decides.{nat_tests}
use Rattle.std.proofs.lemmas.List.{append-nil, append_assoc, map-append}
use Rattle.std.proofs.lemmas.List.Elements.{filter-append}
use Rattle.std.proofs.lemmas.List.Folds.{find-append}
use Rattle.std.proofs.Math.Seq.{take-suc}
use denote.Enum.Bare.{sameb, true_same}
use Rattle.t1_frac.specs.contracts.fault.Code.{the_type}
use Rattle.t1_frac.specs.declared.fault.Code.{Code}
use Rattle.t1_font.proofs.Lookups.{numbers_tell}
use Rattle.t1_chain.specs.Failing.{Failure}
use Rattle.t1_chain.specs.Machine.{failure_seen}
use Rattle.t1_faults.specs.declared.failed_run.FailedRun.{FailedRun as FailedFields}
use Rattle.t1_faults.specs.declared.run_fault.RunFault.{RunFault}
use Rattle.t1_faults.specs.GlyphRuns.{faults_kept, has_fault_code, is_at, seen_run, with_chain}
use Rattle.t1_faults.specs.Met.{chain_of, fails_at_word, fails_in_glyph, faults_at, faults_by_code, first_by_code, have_one_code, last_entered, own_fault, run_fault, shared_fault}
use Rattle.t1_chain.specs.GlyphFailures.{GlyphFailure}
use Rattle.t1_faults.specs.Openings.{is_this_number}
use Rattle.t1_faults.proofs.MetLaws.{one_code, words_more}

-- ---- one run more

last_of : {X : Type 0} (xs : List X) (i : ℕ) (x : X) → i < length xs → x ≡ get_or xs i x → take (i + 1) xs ≡ take i xs ++ x ∷ []
last_of xs i x h e =
    let one : i + 1 ≡ suc i = omega arith in
    ap (λ k. take k xs) one ∙ take-suc xs i x h ∙ ap (λ y. take i xs ++ y ∷ []) (sym e)

seen_more : (runs : List FailedFields) (i : ℕ) (x : FailedFields) → i < length runs → x ≡ get_or runs i x
    → map seen_run (take (i + 1) runs) ≡ map seen_run (take i runs) ++ seen_run x ∷ []
seen_more runs i x h e = ap (map seen_run) (last_of runs i x h e) ∙ map-append seen_run (take i runs) (x ∷ [])

-- ---- in glyphs' own bodies

abbrev own_of : GlyphFailure → RunFault
own_of run = run_fault [] run.failure

own_more : (runs : List GlyphFailure) (r : GlyphFailure) (g : List ℕ) → own_fault (runs ++ r ∷ []) g ≡ option_or (own_fault runs g) (cond (fails_in_glyph g r) (Some (own_of r)) None)
own_more runs r g = ap (option_map own_of) (find-append (fails_in_glyph g) runs (r ∷ [])) ∙ by (find (fails_in_glyph g) runs) (fails_in_glyph g r) where
  by : (o : Option GlyphFailure) (b : Bool) → option_map own_of (option_or o (cond b (Some r) None)) ≡ option_or (option_map own_of o) (cond b (Some (own_of r)) None)
  by None true = refl
  by None false = refl
  by (Some x) b = refl

pub own_next : (runs : List FailedFields) (i : ℕ) (x : FailedFields) (g : List ℕ) (old new : Option RunFault) → i < length runs → x ≡ get_or runs i x
    → new ≡ option_or old (cond (fails_in_glyph g (seen_run x)) (Some (run_fault [] (failure_seen x.failure))) None)
    → old ≡ own_fault (map seen_run (take i runs)) g → new ≡ own_fault (map seen_run (take (i + 1) runs)) g
own_next runs i x g old new h is put done =
    put ∙ ap (λ o. option_or o (cond (fails_in_glyph g (seen_run x)) (Some (run_fault [] (failure_seen x.failure))) None)) done
    ∙ sym (own_more (map seen_run (take i runs)) (seen_run x) g) ∙ ap (λ rs. own_fault rs g) (sym (seen_more runs i x h is))

or_none : {X : Type 0} (o : Option X) → o ≡ option_or o None
or_none None = refl
or_none (Some x) = refl

never : (b : Bool) → false ≡ (b && false)
never true = refl
never false = refl

always : (b : Bool) → b ≡ (b && true)
always true = refl
always false = refl

-- a run that fails in a Subr is none in the glyph's own body
pub not_own : (r : GlyphFailure) (g : List ℕ) (old : Option RunFault) (fault : RunFault) → is_some (last_entered r.failure.calls) ≡ true
    → old ≡ option_or old (cond (fails_in_glyph g r) (Some fault) None)
not_own r g old fault last =
    or_none old ∙ ap (λ b. option_or old (cond b (Some fault) None)) (never (bytes_eq g r.glyph) ∙ ap (λ b. bytes_eq g r.glyph && not b) (sym last))

-- one that doesn't is the glyph's
pub is_own : (r : GlyphFailure) (g : List ℕ) (old : Option RunFault) (fault : RunFault) → is_some (last_entered r.failure.calls) ≡ false
    → option_or old (cond (bytes_eq g r.glyph) (Some fault) None) ≡ option_or old (cond (fails_in_glyph g r) (Some fault) None)
is_own r g old fault last =
    ap (λ b. option_or old (cond b (Some fault) None)) (always (bytes_eq g r.glyph) ∙ ap (λ b. bytes_eq g r.glyph && not b) (sym last))

-- ---- at one word

-- no two of the runs fail by one code
abbrev Apart : List GlyphFailure → Type 0
Apart [] = Unit {0}
Apart (x ∷ xs) = AllByRecursion (λ y. have_one_code x y ≡ false) xs × Apart xs

left_apart : (r : GlyphFailure) (test : GlyphFailure → Bool) (xs : List GlyphFailure) → AllByRecursion (λ y. have_one_code r y ≡ false) xs → AllByRecursion (λ y. have_one_code r y ≡ false) (filter test xs)
left_apart r test [] h = tt
left_apart r test (x ∷ xs) h = by (test x) (left_apart r test xs h.1) where
  by : (b : Bool) → AllByRecursion (λ y. have_one_code r y ≡ false) (filter test xs) → AllByRecursion (λ y. have_one_code r y ≡ false) (cond b (x ∷ filter test xs) (filter test xs))
  by true k = (h.0, k)
  by false k = k

apart_left : (test : GlyphFailure → Bool) (xs : List GlyphFailure) → Apart xs → Apart (filter test xs)
apart_left test [] h = tt
apart_left test (x ∷ xs) h = by (test x) (apart_left test xs h.1) where
  by : (b : Bool) → Apart (filter test xs) → Apart (cond b (x ∷ filter test xs) (filter test xs))
  by true k = (left_apart x test xs h.0, k)
  by false k = k

others_apart : (r : GlyphFailure) (xs : List GlyphFailure) → AllByRecursion (λ y. have_one_code r y ≡ false) (filter (λ y. not (have_one_code r y)) xs)
others_apart r [] = tt
others_apart r (x ∷ xs) = by (have_one_code r x) refl (others_apart r xs) where
  by : (b : Bool) → have_one_code r x ≡ b → AllByRecursion (λ y. have_one_code r y ≡ false) (filter (λ y. not (have_one_code r y)) xs)
      → AllByRecursion (λ y. have_one_code r y ≡ false) (cond (not b) (x ∷ filter (λ y. not (have_one_code r y)) xs) (filter (λ y. not (have_one_code r y)) xs))
  by true e k = k
  by false e k = (e, k)

first_apart : (xs : List GlyphFailure) → Apart (first_by_code xs)
first_apart [] = tt
first_apart (x ∷ xs) = (others_apart x (first_by_code xs), apart_left (λ y. not (have_one_code x y)) (first_by_code xs) (first_apart xs))

-- whether a run of these has the code of this one
abbrev is_among : GlyphFailure → List GlyphFailure → Bool
is_among r xs = list_any (λ x. have_one_code x r) xs

-- the first ones of some runs and one more
first_more : (xs : List GlyphFailure) (r : GlyphFailure) → first_by_code (xs ++ r ∷ []) ≡ first_by_code xs ++ cond (is_among r xs) [] (r ∷ [])
first_more [] r = refl
first_more (x ∷ xs) r =
    ap (λ l. x ∷ filter (λ y. not (have_one_code x y)) l) (first_more xs r)
    ∙ ap (λ l. x ∷ l) (filter-append (λ y. not (have_one_code x y)) (first_by_code xs) (cond (is_among r xs) [] (r ∷ [])) ∙ by (have_one_code x r) (is_among r xs) refl)
  where
    by : (a b : Bool) → have_one_code x r ≡ a
        → filter (λ y. not (have_one_code x y)) (first_by_code xs) ++ filter (λ y. not (have_one_code x y)) (cond b [] (r ∷ []))
        ≡ filter (λ y. not (have_one_code x y)) (first_by_code xs) ++ cond (a || b) [] (r ∷ [])
    by true true e = refl
    by true false e = rw e refl
    by false true e = refl
    by false false e = rw e refl

-- the first ones have all the codes
among_first : (xs : List GlyphFailure) (r : GlyphFailure) → is_among r (first_by_code xs) ≡ is_among r xs
among_first [] r = refl
among_first (x ∷ xs) r = by (among_first xs r) (have_one_code x r) refl where
  without : (ys : List GlyphFailure) → have_one_code x r ≡ false → is_among r (filter (λ y. not (have_one_code x y)) ys) ≡ is_among r ys
  without [] e = refl
  without (y ∷ ys) e = one (have_one_code x y) refl (without ys e) where
    one : (b : Bool) → have_one_code x y ≡ b → is_among r (filter (λ z. not (have_one_code x z)) ys) ≡ is_among r ys
        → is_among r (cond (not b) (y ∷ filter (λ z. not (have_one_code x z)) ys) (filter (λ z. not (have_one_code x z)) ys)) ≡ is_among r (y ∷ ys)
    one true f k =
        let code : have_one_code y r ≡ false = ap (λ (c : Code). sameb the_type c r.failure.code) (sym (one_code x y f)) ∙ e in
        rw code k
    one false f k = ap (λ b. have_one_code y r || b) k

  by : is_among r (first_by_code xs) ≡ is_among r xs → (b : Bool) → have_one_code x r ≡ b → (b || is_among r (filter (λ y. not (have_one_code x y)) (first_by_code xs))) ≡ (b || is_among r xs)
  by below true e = refl
  by below false e = without (first_by_code xs) e ∙ below

chained : (r x : GlyphFailure) (here : List GlyphFailure) (b : Bool)
    → run_fault (map chain_of (here ++ cond b (r ∷ []) [])) x.failure ≡ cond b (with_chain (chain_of r) (run_fault (map chain_of here) x.failure)) (run_fault (map chain_of here) x.failure)
chained r x here true = ap (λ l. run_fault l x.failure) (map-append chain_of here (r ∷ []))
chained r x here false = ap (λ l. run_fault (map chain_of l) x.failure) (append-nil here)

-- the fault of one of some runs and of one more
shared_more : (runs : List GlyphFailure) (r x : GlyphFailure) → shared_fault (runs ++ r ∷ []) x ≡ cond (have_one_code x r) (with_chain (chain_of r) (shared_fault runs x)) (shared_fault runs x)
shared_more runs r x =
    ap (λ l. run_fault (map chain_of l) x.failure) (filter-append (have_one_code x) runs (r ∷ [])) ∙ chained r x (filter (have_one_code x) runs) (have_one_code x r)

-- faults of other codes stay
others_stay : (runs : List GlyphFailure) (r : GlyphFailure) (xs : List GlyphFailure) → AllByRecursion (λ x. have_one_code x r ≡ false) xs → map (shared_fault (runs ++ r ∷ [])) xs ≡ map (shared_fault runs) xs
others_stay runs r [] h = refl
others_stay runs r (x ∷ xs) h =
    let first = shared_more runs r x ∙ ap (λ b. cond b (with_chain (chain_of r) (shared_fault runs x)) (shared_fault runs x)) h.0 in
    ap (λ f. f ∷ map (shared_fault (runs ++ r ∷ [])) xs) first ∙ ap (λ fs. shared_fault runs x ∷ fs) (others_stay runs r xs h.1)

none_among : (r : GlyphFailure) (xs : List GlyphFailure) → is_among r xs ≡ false → AllByRecursion (λ x. have_one_code x r ≡ false) xs
none_among r [] h = tt
none_among r (x ∷ xs) h = by (λ k. none_among r xs k) (have_one_code x r) refl h where
  by : (is_among r xs ≡ false → AllByRecursion (λ y. have_one_code y r ≡ false) xs) → (b : Bool) → have_one_code x r ≡ b → (b || is_among r xs) ≡ false
      → AllByRecursion (λ y. have_one_code y r ≡ false) (x ∷ xs)
  by below true e k = absurd (cc)
  by below false e k = (e, below k)

-- a run of a code that isn't there has a fault of its own
none_kept : (r : GlyphFailure) (runs : List GlyphFailure) → is_among r runs ≡ false → filter (have_one_code r) runs ≡ []
none_kept r [] h = refl
none_kept r (x ∷ xs) h = by (λ k. none_kept r xs k) (have_one_code x r) (have_one_code r x) refl refl h where
  by : (is_among r xs ≡ false → filter (have_one_code r) xs ≡ []) → (a b : Bool) → have_one_code x r ≡ a → have_one_code r x ≡ b → (a || is_among r xs) ≡ false → cond b (x ∷ filter (have_one_code r) xs) (filter (have_one_code r) xs) ≡ []
  by below true b e f k = absurd (cc)
  by below false true e f k = let never : true ≡ false = sym (true_same the_type x.failure.code r.failure.code (sym (one_code r x f))) ∙ e in absurd (cc)
  by below false false e f k = below k

own_chain : (r : GlyphFailure) (runs : List GlyphFailure) → is_among r runs ≡ false → shared_fault (runs ++ r ∷ []) r ≡ run_fault (chain_of r ∷ []) r.failure
own_chain r runs h =
    let itself : have_one_code r r ≡ true = true_same the_type r.failure.code r.failure.code refl in
    shared_more runs r r ∙ ap (λ b. cond b (with_chain (chain_of r) (shared_fault runs r)) (shared_fault runs r)) itself
    ∙ ap (λ l. with_chain (chain_of r) (run_fault (map chain_of l) r.failure)) (none_kept r runs h)

-- past the last fault there is none of the code
no_place : (runs xs : List GlyphFailure) (r : GlyphFailure) → length (map (shared_fault runs) xs) ≤ position_or_len (has_fault_code r.failure.code) (map (shared_fault runs) xs) → is_among r xs ≡ false
no_place runs [] r h = refl
no_place runs (x ∷ xs) r h = by (λ k. no_place runs xs r k) (have_one_code x r) h where
  by : (length (map (shared_fault runs) xs) ≤ position_or_len (has_fault_code r.failure.code) (map (shared_fault runs) xs) → is_among r xs ≡ false) → (b : Bool) → suc (length (map (shared_fault runs) xs)) ≤ cond (not b) (1 + position_or_len (has_fault_code r.failure.code) (map (shared_fault runs) xs)) 0 → (b || is_among r xs) ≡ false
  by below true k = absurd (omega (arith, k))
  by below false k = below (omega (arith, k))

-- a run of another code has a fault more
pub fault_more : (r : GlyphFailure) (runs : List GlyphFailure) (found : List RunFault) (k : ℕ) → found ≡ faults_by_code runs → k ≡ position_or_len (has_fault_code r.failure.code) found → length found ≤ k
    → found ++ run_fault (chain_of r ∷ []) r.failure ∷ [] ≡ faults_by_code (runs ++ r ∷ [])
fault_more r runs found k is there past =
    let whole = map (shared_fault runs) (first_by_code runs) in
    let size : length found ≡ length whole = ap length is in
    let place : k ≡ position_or_len (has_fault_code r.failure.code) whole = there ∙ ap (position_or_len (has_fault_code r.failure.code)) is in
    let beyond : length whole ≤ position_or_len (has_fault_code r.failure.code) whole = omega (arith, size, place, past) in
    let none : is_among r (first_by_code runs) ≡ false = no_place runs (first_by_code runs) r beyond in
    let fresh : is_among r runs ≡ false = sym (among_first runs r) ∙ none in
    ap (λ l. l ++ run_fault (chain_of r ∷ []) r.failure ∷ []) (is ∙ sym (others_stay runs r (first_by_code runs) (none_among r (first_by_code runs) none)))
    ∙ ap (λ f. map (shared_fault (runs ++ r ∷ [])) (first_by_code runs) ++ f ∷ []) (sym (own_chain r runs fresh))
    ∙ sym (map-append (shared_fault (runs ++ r ∷ [])) (first_by_code runs) (r ∷ []))
    ∙ ap (map (shared_fault (runs ++ r ∷ []))) (sym (first_more runs r ∙ ap (λ b. first_by_code runs ++ cond b [] (r ∷ [])) fresh))

-- ---- a run of a code that is there

others_differ : (r x : GlyphFailure) (xs : List GlyphFailure) → have_one_code x r ≡ true → AllByRecursion (λ y. have_one_code x y ≡ false) xs → AllByRecursion (λ y. have_one_code y r ≡ false) xs
others_differ r x [] e h = tt
others_differ r x (y ∷ ys) e h = (by (have_one_code y r) refl, others_differ r x ys e h.1) where
  by : (b : Bool) → have_one_code y r ≡ b → have_one_code y r ≡ false
  by true f =
      let same = one_code x r e ∙ sym (one_code y r f) in
      let never : true ≡ false = sym (true_same the_type x.failure.code y.failure.code same) ∙ h.0 in
      absurd (cc)
  by false f = f

-- its chain goes to the fault
chain_put : (r : GlyphFailure) (runs xs : List GlyphFailure) (k : ℕ) (d : RunFault) → Apart xs → k ≡ position_or_len (has_fault_code r.failure.code) (map (shared_fault runs) xs)
    → k < length (map (shared_fault runs) xs)
    → set (map (shared_fault runs) xs) k (with_chain (chain_of r) (get_or (map (shared_fault runs) xs) k d)) ≡ map (shared_fault (runs ++ r ∷ [])) xs
chain_put r runs [] k d apart place within = absurd (omega (arith, within))
chain_put r runs (x ∷ xs) zero d apart place within =
    elim (cases_Bool (have_one_code x r)) [
      | inl same ↦
          let first = shared_more runs r x ∙ ap (λ b. cond b (with_chain (chain_of r) (shared_fault runs x)) (shared_fault runs x)) same in
          ap (λ f. f ∷ map (shared_fault runs) xs) (sym first) ∙ ap (λ fs. shared_fault (runs ++ r ∷ []) x ∷ fs) (sym (others_stay runs r xs (others_differ r x xs same apart.0)))
      | inr other ↦
          let rest = position_or_len (has_fault_code r.failure.code) (map (shared_fault runs) xs) in
          let never : 0 ≡ 1 + rest = place ∙ ap (λ b. cond (not b) (1 + rest) 0) other in
          absurd (omega (arith, never))
    ]
chain_put r runs (x ∷ xs) (suc k) d apart place within =
    elim (cases_Bool (have_one_code x r)) [
      | inl same ↦
          let rest = position_or_len (has_fault_code r.failure.code) (map (shared_fault runs) xs) in
          let never : suc k ≡ 0 = place ∙ ap (λ b. cond (not b) (1 + rest) 0) same in
          absurd (omega (arith, never))
      | inr other ↦
          let rest = position_or_len (has_fault_code r.failure.code) (map (shared_fault runs) xs) in
          let more : suc k ≡ 1 + rest = place ∙ ap (λ b. cond (not b) (1 + rest) 0) other in
          let left : k ≡ rest = omega (arith, more) in
          let first = shared_more runs r x ∙ ap (λ b. cond b (with_chain (chain_of r) (shared_fault runs x)) (shared_fault runs x)) other in
          ap (λ fs. shared_fault runs x ∷ fs) (chain_put r runs xs k d apart.1 left (omega (arith, within)))
          ∙ ap (λ f. f ∷ map (shared_fault (runs ++ r ∷ [])) xs) (sym first)
    ]

found_among : (r : GlyphFailure) (all xs : List GlyphFailure) (k : ℕ) → k ≡ position_or_len (has_fault_code r.failure.code) (map (shared_fault all) xs) → k < length (map (shared_fault all) xs) → is_among r xs ≡ true
found_among r all [] k e h = absurd (omega (arith, h))
found_among r all (x ∷ xs) k e h =
    by (λ f. found_among r all xs (position_or_len (has_fault_code r.failure.code) (map (shared_fault all) xs)) refl f) (have_one_code x r) e
  where
    by : (position_or_len (has_fault_code r.failure.code) (map (shared_fault all) xs) < length (map (shared_fault all) xs) → is_among r xs ≡ true) → (b : Bool)
        → k ≡ cond (not b) (1 + position_or_len (has_fault_code r.failure.code) (map (shared_fault all) xs)) 0 → (b || is_among r xs) ≡ true
    by below true f = refl
    by below false f = below (omega (arith, f, h))

-- nothing is new but that chain
pub chain_more : (r : GlyphFailure) (runs : List GlyphFailure) (found : List RunFault) (k : ℕ) (old new : RunFault) → found ≡ faults_by_code runs
    → k ≡ position_or_len (has_fault_code r.failure.code) found → k < length found → old ≡ get_or found k old → new ≡ with_chain (chain_of r) old
    → set found k new ≡ faults_by_code (runs ++ r ∷ [])
chain_more r runs found k old new is place within there put =
    let whole = map (shared_fault runs) (first_by_code runs) in
    let size : length found ≡ length whole = ap length is in
    let spot : k ≡ position_or_len (has_fault_code r.failure.code) whole = place ∙ ap (position_or_len (has_fault_code r.failure.code)) is in
    let inside : k < length whole = omega (arith, within, size) in
    let same : is_among r runs ≡ true = sym (among_first runs r) ∙ found_among r runs (first_by_code runs) k spot inside in
    ap (set found k) (put ∙ ap (with_chain (chain_of r)) there) ∙ ap (λ l. set l k (with_chain (chain_of r) (get_or l k old))) is
    ∙ chain_put r runs (first_by_code runs) k old (first_apart runs) spot inside
    ∙ ap (map (shared_fault (runs ++ r ∷ []))) (sym (first_more runs r ∙ ap (λ b. first_by_code runs ++ cond b [] (r ∷ [])) same ∙ append-nil (first_by_code runs)))

-- ---- at all words of all Subrs

at_more : (runs : List GlyphFailure) (r : GlyphFailure) (n k : ℕ)
    → faults_at (runs ++ r ∷ []) n k ≡ faults_by_code (cond (fails_at_word n k r) (filter (fails_at_word n k) runs ++ r ∷ []) (filter (fails_at_word n k) runs))
at_more runs r n k = ap faults_by_code (filter-append (fails_at_word n k) runs (r ∷ []) ∙ by (fails_at_word n k r)) where
  by : (b : Bool) → filter (fails_at_word n k) runs ++ cond b (r ∷ []) [] ≡ cond b (filter (fails_at_word n k) runs ++ r ∷ []) (filter (fails_at_word n k) runs)
  by true = refl
  by false = append-nil (filter (fails_at_word n k) runs)

-- a run that fails in a Subr
pub in_subr_more : (n k s : ℕ) (r : GlyphFailure) (runs : List GlyphFailure) (new : List RunFault) → last_entered r.failure.calls ≡ Some s
    → new ≡ faults_by_code (cond (is_at n k (s, r.failure.word)) (filter (fails_at_word n k) runs ++ r ∷ []) (filter (fails_at_word n k) runs)) → new ≡ faults_at (runs ++ r ∷ []) n k
in_subr_more n k s r runs new last put =
    put ∙ ap (λ (o : Option ℕ). faults_by_code (cond (is_this_number n o && nat_eq k r.failure.word) (filter (fails_at_word n k) runs ++ r ∷ []) (filter (fails_at_word n k) runs))) (sym last)
    ∙ sym (at_more runs r n k)

-- a run that doesn't
pub in_no_subr : (n k : ℕ) (r : GlyphFailure) (runs : List GlyphFailure) (old : List RunFault) → last_entered r.failure.calls ≡ None → old ≡ faults_at runs n k → old ≡ faults_at (runs ++ r ∷ []) n k
in_no_subr n k r runs old last is =
    is ∙ ap (λ (o : Option ℕ). faults_by_code (cond (is_this_number n o && nat_eq k r.failure.word) (filter (fails_at_word n k) runs ++ r ∷ []) (filter (fails_at_word n k) runs))) (sym last)
    ∙ sym (at_more runs r n k)

pub same_turned : (n s : ℕ) → nat_eq s n ≡ nat_eq n s
same_turned n s = elim (cases_Bool (nat_eq n s)) [
  | inl same ↦
      let e : n ≡ s = numbers_tell.same n s same in
      ap (nat_eq s) e ∙ numbers_tell.itself s ∙ sym same
  | inr other ↦
      let e : nat_eq s n ≡ false = grind (arith, nat_tests, other) in
      e ∙ sym other
]

-- what is kept after the faults of one word were taken out, or put in
pub kept_after : {A : Type 0} (n k s w : ℕ) (old new put : Option (Vec RunFault A)) → new ≡ cond (nat_eq s n && nat_eq w k) put old
    → faults_kept new ≡ cond (is_at n k (s, w)) (faults_kept put) (faults_kept old)
kept_after n k s w old new put e =
    ap faults_kept e ∙ by (nat_eq s n && nat_eq w k)
    ∙ ap (λ b. cond b (faults_kept put) (faults_kept old)) (ap (λ b. b && nat_eq w k) (same_turned n s) ∙ ap (λ b. nat_eq n s && b) (same_turned k w))
  where
    by : (b : Bool) → faults_kept (cond b put old) ≡ cond b (faults_kept put) (faults_kept old)
    by true = refl
    by false = refl

-- what is kept of a word is taken out, a run added, and put back
pub kept_more : (n k s w : ℕ) (r : GlyphFailure) (runs : List GlyphFailure) (old mid new : ℕ → ℕ → List RunFault) (taken put : List RunFault) → taken ≡ old s w
    → ((i j : ℕ) → mid i j ≡ cond (is_at i j (s, w)) [] (old i j)) → ((rs : List GlyphFailure) → taken ≡ faults_by_code rs → put ≡ faults_by_code (rs ++ r ∷ []))
    → ((i j : ℕ) → new i j ≡ cond (is_at i j (s, w)) put (mid i j)) → old n k ≡ faults_by_code runs
    → new n k ≡ faults_by_code (cond (is_at n k (s, w)) (runs ++ r ∷ []) runs)
kept_more n k s w r runs old mid new taken put is others add all h = by (nat_eq n s) (nat_eq k w) refl refl where
  by : (a b : Bool) → nat_eq n s ≡ a → nat_eq k w ≡ b → new n k ≡ faults_by_code (cond (a && b) (runs ++ r ∷ []) runs)
  by true true e f =
      let subr : n ≡ s = numbers_tell.same n s e in
      let word : k ≡ w = numbers_tell.same k w f in
      let here : taken ≡ faults_by_code runs = is ∙ ap (λ i. old i w) (sym subr) ∙ ap (old n) (sym word) ∙ h in
      all n k ∙ ap (λ b. cond (b && nat_eq k w) put (mid n k)) e ∙ ap (λ b. cond b put (mid n k)) f ∙ add runs here
  by true false e f =
      all n k ∙ ap (λ b. cond (b && nat_eq k w) put (mid n k)) e ∙ ap (λ b. cond b put (mid n k)) f
      ∙ others n k ∙ ap (λ b. cond (b && nat_eq k w) [] (old n k)) e ∙ ap (λ b. cond b [] (old n k)) f ∙ h
  by false b e f =
      all n k ∙ ap (λ b. cond (b && nat_eq k w) put (mid n k)) e ∙ others n k ∙ ap (λ b. cond (b && nat_eq k w) [] (old n k)) e ∙ h

pub at_next : (runs : List FailedFields) (i : ℕ) (x : FailedFields) (n k : ℕ) (old new : List RunFault) → i < length runs → x ≡ get_or runs i x
    → ((rs : List GlyphFailure) → old ≡ faults_at rs n k → new ≡ faults_at (rs ++ seen_run x ∷ []) n k)
    → old ≡ faults_at (map seen_run (take i runs)) n k → new ≡ faults_at (map seen_run (take (i + 1) runs)) n k
at_next runs i x n k old new h is put done = put (map seen_run (take i runs)) done ∙ ap (λ rs. faults_at rs n k) (sym (seen_more runs i x h is))

-- the faults of one word more are pushed
pub words_pushed : {X : Type 0} (put : RunFault → X) (f : ℕ → List RunFault) (word : ℕ) (first old new : List X) (fs : List RunFault)
    → old ≡ first ++ map put (flat_map f (range_with_len 0 word)) → fs ≡ f word → new ≡ old ++ map put fs → new ≡ first ++ map put (flat_map f (range_with_len 0 (word + 1)))
words_pushed put f word first old new fs so_far is pushed =
    let one : word + 1 ≡ suc word = omega arith in
    pushed ∙ ap (λ xs. xs ++ map put fs) so_far ∙ ap (λ ys. (first ++ map put (flat_map f (range_with_len 0 word))) ++ map put ys) is
    ∙ append_assoc first (map put (flat_map f (range_with_len 0 word))) (map put (f word))
    ∙ ap (λ ys. first ++ ys) (sym (map-append put (flat_map f (range_with_len 0 word)) (f word)) ∙ ap (map put) (sym (words_more f word)))
    ∙ ap (λ n. first ++ map put (flat_map f (range_with_len 0 n))) (sym one)
