-- What runs meet is told where it stands.
use Rattle.std.proofs.Common.{◌≡◌, ◌∙◌, ℕ, zero, suc, Bool, true, false, cond, ◌&&◌, ◌+◌, ◌-◌, ◌<◌, ◌⊎◌, List, [], ◌∷◌, ◌++◌, length, map, Option, None, Some, Result, Ok, Err, refl, sym, ap, subst, inl, inr, arith, rules}
use Rattle.std.specs.Prelude.{nat_eq, nat_lt, not, is_none, slice_get, option_map, flat_map}
use Rattle.std.specs.List.{AllByRecursion, cons_option, filter, find, list_any, range_with_len}
use Rattle.std.specs.Option.{option_or}
use Rattle.std.specs.Result.{result_ok}
use Rattle.std.specs.Str.{bytes_eq}
use Rattle.std.proofs.lemmas.Bool.{cases_Bool, cases_lt}
use Rattle.std.proofs.lemmas.Grind.{flat_map-append}
use Rattle.std.proofs.lemmas.List.{append-nil}
use denote.Enum.Bare.{same_true, true_same}
use Rattle.t1_frac.specs.contracts.fault.Code.{the_type}
use Rattle.t1_frac.specs.declared.fault.Code.{Code}
use Rattle.t1_frac.specs.declared.fault.Code.TheVariants.{F22}
use Rattle.t1_frac.specs.declared.fault.Place.{Place}
use Rattle.t1_frac.specs.declared.fault.Place.TheVariants as places
use Rattle.t1_parts.specs.declared.item.Item.{Item}
use Rattle.t1_parts.specs.declared.item.Item.TheVariants.{Plain, Section, Subr, Glyph}
use Rattle.t1_code.specs.declared.command.Command.{Command}
use Rattle.t1_code.specs.Words.{command_of_word, command_then, commands, commands_of_words}
use Rattle.t1_run.specs.Run.{FontBodies}
use Rattle.t1_run.proofs.Asked.{bytes_same, bytes_self}
use Rattle.t1_font.specs.Bodies.{subr_among}
use Rattle.t1_font.specs.Glyphs.{glyph_names}
use Rattle.t1_font.proofs.Lookups.{numbers_tell}
use Rattle.t1_chain.specs.declared.failure.Call.{Call}
use Rattle.t1_chain.specs.Failing.{Failure, LeadsTo, LeadsToWord}
use Rattle.t1_faults.specs.declared.call_chains.CallChain.{CallChain}
use Rattle.t1_faults.specs.declared.run_fault.RunFault.{RunFault}
use Rattle.t1_faults.specs.Entries.{Entry, placed_words}
use Rattle.t1_faults.specs.Failing.{Failures}
use Rattle.t1_faults.specs.Met.{chain_of, failed_run, failed_runs, fails_at_word, fails_in_glyph, faults_at, faults_by_code, first_by_code, have_one_code, last_entered, met_in, own_fault, run_fault, shared_fault}
use Rattle.t1_chain.specs.GlyphFailures.{GlyphFailure}
use Rattle.t1_faults.specs.Openings.{is_this_number}
use Rattle.t1_faults.specs.Telling.{HasChain}
use Rattle.t1_faults.proofs.SoundLaws.{long_as}
use Rattle.t1_faults.proofs.TakenLaws.{AreOf}

-- ---- entries among others

-- one of the entries is so
abbrev pub Has : (Entry → Type 0) → List Entry → Type 0
Has P [] = ⊥
Has P (e ∷ es) = P e ⊎ Has P es

pub both : (P Q : Entry → Type 0) (es : List Entry) → Has P es → AllByRecursion Q es → Has (λ e. P e × Q e) es
both P Q [] h k = absurd h
both P Q (e ∷ es) (inl p) k = inl (p, k.0)
both P Q (e ∷ es) (inr h) k = inr (both P Q es h k.1)

pub one_of : (P : Entry → Type 0) (es : List Entry) → Has P es → (e : Entry) × P e
one_of P [] h = absurd h
one_of P (e ∷ es) (inl p) = (e, p)
one_of P (e ∷ es) (inr h) = one_of P es h

-- a glyph of the items has an entry
pub glyph_there : (items : List Item) (es : List Entry) (g : List ℕ) → AreOf items es → list_any (bytes_eq g) (glyph_names items) ≡ true → Has (λ e. e.place ≡ places.Glyph g) es
glyph_there [] es g are there = absurd (cc)
glyph_there (Plain l ∷ items) es g are there = glyph_there items es g are there
glyph_there (Section before n after ∷ items) es g are there = glyph_there items es g are there
glyph_there (Subr n words closing ∷ items) [] g are there = absurd are
glyph_there (Subr n words closing ∷ items) (e ∷ es) g are there = inr (glyph_there items es g are.2 there)
glyph_there (Glyph name words closing ∷ items) [] g are there = absurd are
glyph_there (Glyph name words closing ∷ items) (e ∷ es) g are there =
    elim (cases_Bool (bytes_eq g name)) [
      | inl same ↦ inl (are.0 ∙ ap (λ n. places.Glyph n) (sym (bytes_same g name same)))
      | inr other ↦ inr (glyph_there items es g are.2 (rw other at there))
    ]

-- a body has as many commands as words
as_many_of : (words : List (List ℕ)) (cs : List Command) → commands_of_words words ≡ Ok cs → length words ≡ length cs
as_many_of [] cs e = let same : ◌≡◌ {A = List Command} [] cs = cc in ap length same
as_many_of (word ∷ words) cs e = by (λ more f. as_many_of words more f) (command_of_word word) (commands_of_words words) refl e where
  by : ((more : List Command) → commands_of_words words ≡ Ok more → length words ≡ length more) → (r : Result Command Code) (rest : Result (List Command) Code)
      → commands_of_words words ≡ rest → command_then r rest ≡ Ok cs → length (word ∷ words) ≡ length cs
  by below (Ok c) (Ok more) f h = let same : c ∷ more ≡ cs = cc in ap suc (below more f) ∙ ap length same
  by below (Ok c) (Err code) f h = absurd (cc)
  by below (Err code) rest f h = absurd (cc)

pub as_many : (words : List (List ℕ)) (cs : List Command) → commands words ≡ Ok cs → length words ≡ length cs
unfolding commands
as_many words cs e =
    elim (cases_Bool (nat_lt 65535 (length words))) [
      | inl long ↦ let never : ◌≡◌ {A = Result (List Command) Code} (Err F22) (Ok cs) = rw long at e in absurd (cc)
      | inr short ↦ let read : commands_of_words words ≡ Ok cs = rw short at e in as_many_of words cs read
    ]

-- the entry of this Subr has as many words as this body has commands
abbrev pub IsSubr : ℕ → List Command → Entry → Type 0
IsSubr n body e = (e.place ≡ places.Subr n) × (length (placed_words e) ≡ length body)

-- a Subr that is run has an entry
pub subr_there : (items : List Item) (es : List Entry) (n : ℕ) (body : List Command) → AreOf items es → subr_among items n ≡ Some body → Has (IsSubr n body) es
subr_there [] es n body are there = absurd (cc)
subr_there (Plain l ∷ items) es n body are there = subr_there items es n body are there
subr_there (Section before count after ∷ items) es n body are there = subr_there items es n body are there
subr_there (Subr number words closing ∷ items) [] n body are there = absurd are
subr_there (Subr number words closing ∷ items) (e ∷ es) n body are there =
    by (λ h. subr_there items es n body are.2 h) (nat_eq n number) (commands words) refl refl there
  where
    by : (subr_among items n ≡ Some body → Has (IsSubr n body) es) → (b : Bool) (r : Result (List Command) Code) → nat_eq n number ≡ b → commands words ≡ r
        → option_or (cond b (result_ok r) None) (subr_among items n) ≡ Some body → Has (IsSubr n body) (e ∷ es)
    by below true (Ok cs) same fine h =
        let is : cs ≡ body = cc in
        inl (are.0 ∙ ap (λ k. places.Subr k) (sym (numbers_tell.same n number same)), sym (long_as (placed_words e)) ∙ ap length are.1 ∙ as_many words cs fine ∙ ap length is)
    by below true (Err code) same refused h = inr (below h)
    by below false r other fine h = inr (below h)
subr_there (Glyph name words closing ∷ items) [] n body are there = absurd are
subr_there (Glyph name words closing ∷ items) (e ∷ es) n body are there = inr (subr_there items es n body are.2 there)

-- ---- the Subr entered last

last_more : (call next : Call) (calls : List Call) → last_entered (call ∷ next ∷ calls) ≡ last_entered (next ∷ calls)
last_more call next calls =
    let size : length (call ∷ next ∷ calls) - 1 ≡ suc (length (next ∷ calls) - 1) = omega arith in
    ap (λ i. option_map (λ (c : Call). c.subr) (slice_get (call ∷ next ∷ calls) i)) size

-- it is there, and a failure in it is at one of its words
last_word : (m : FontBodies) (count : ℕ) (call : Call) (calls : List Call) (word n : ℕ) → LeadsToWord m count (call ∷ calls) word → last_entered (call ∷ calls) ≡ Some n
    → (body : List Command) × (m.subrs n ≡ Some body) × (word < length body)
last_word m count call [] word n h e =
    let here : Some call.subr ≡ Some n = e in
    let same : call.subr ≡ n = cc in
    (h.1.0, ap m.subrs (sym same) ∙ h.1.1, h.1.2)
last_word m count call (next ∷ calls) word n h e = last_word m (length h.1.0) next calls word n h.1.2 (sym (last_more call next calls) ∙ e)

pub last_there : (m : FontBodies) (count : ℕ) (calls : List Call) (word n : ℕ) → LeadsTo m count calls word → last_entered calls ≡ Some n
    → (body : List Command) × (m.subrs n ≡ Some body) × (word < length body)
last_there m count [] word n h e = absurd (cc)
last_there m count (call ∷ calls) word n h e = last_word m count call calls word n h e

-- ---- the runs that fail

-- the run is one of these
abbrev pub HasRun : GlyphFailure → List GlyphFailure → Type 0
HasRun r [] = ⊥
HasRun r (x ∷ xs) = (x ≡ r) ⊎ HasRun r xs

abbrev pub run_of : List ℕ → Failure → GlyphFailure
run_of g f = record { glyph = g; failure = f }

fails_by : (F : Failures) (g : List ℕ) (f : Failure) (place : Place) → place ≡ places.Glyph g → F g ≡ Some f → failed_run F place ≡ Some (run_of g f)
fails_by F g f place is fails = ap (failed_run F) is ∙ ap (option_map (run_of g)) fails

-- that of a glyph that has an entry is there
pub run_there : (F : Failures) (g : List ℕ) (f : Failure) → F g ≡ Some f → (es : List Entry) → Has (λ e. e.place ≡ places.Glyph g) es → HasRun (run_of g f) (failed_runs F es)
run_there F g f fails [] h = absurd h
run_there F g f fails (e ∷ es) (inl here) = subst (λ o. HasRun (run_of g f) (cons_option o (failed_runs F es))) (sym (fails_by F g f e.place here fails)) (inl refl)
run_there F g f fails (e ∷ es) (inr later) = by (failed_run F e.place) (run_there F g f fails es later) where
  by : (o : Option GlyphFailure) → HasRun (run_of g f) (failed_runs F es) → HasRun (run_of g f) (cons_option o (failed_runs F es))
  by None h = h
  by (Some x) h = inr h

-- each has the failure of its glyph
abbrev pub FailsSo : Failures → GlyphFailure → Type 0
FailsSo F r = F r.glyph ≡ Some r.failure

pub each_fails : (F : Failures) (es : List Entry) → AllByRecursion (FailsSo F) (failed_runs F es)
each_fails F [] = tt
each_fails F (e ∷ es) = by e.place (each_fails F es) where
  of_glyph : (g : List ℕ) (o : Option Failure) → F g ≡ o → AllByRecursion (FailsSo F) (failed_runs F es) → AllByRecursion (FailsSo F) (cons_option (option_map (run_of g) o) (failed_runs F es))
  of_glyph g None is h = h
  of_glyph g (Some f) is h = (is, h)

  by : (place : Place) → AllByRecursion (FailsSo F) (failed_runs F es) → AllByRecursion (FailsSo F) (cons_option (failed_run F place) (failed_runs F es))
  by places.Nowhere h = h
  by (places.Line n) h = h
  by (places.Subr n) h = h
  by (places.Glyph g) h = of_glyph g (F g) refl h

-- ---- in a glyph's own body

pub first_true : (a b : Bool) → (a && b) ≡ true → a ≡ true
first_true true b h = refl
first_true false b h = h

found_one : (test : GlyphFailure → Bool) (P : GlyphFailure → Type 0) (r : GlyphFailure) → test r ≡ true → (xs : List GlyphFailure) → AllByRecursion P xs → HasRun r xs
    → (x : GlyphFailure) × (find test xs ≡ Some x) × (test x ≡ true) × P x
found_one test P r t [] all h = absurd h
found_one test P r t (x ∷ xs) all h = by (λ k. found_one test P r t xs all.1 k) (test x) refl h where
  by : (HasRun r xs → (y : GlyphFailure) × (find test xs ≡ Some y) × (test y ≡ true) × P y) → (b : Bool) → test x ≡ b → HasRun r (x ∷ xs)
      → (y : GlyphFailure) × (cond b (Some x) (find test xs) ≡ Some y) × (test y ≡ true) × P y
  by below true e k = (x, refl, e, all.0)
  by below false e (inl same) = let never : true ≡ false = sym t ∙ ap test (sym same) ∙ e in absurd (cc)
  by below false e (inr later) = below later

fails_there : (g : List ℕ) (f : Failure) → last_entered f.calls ≡ None → fails_in_glyph g (run_of g f) ≡ true
fails_there g f last = ap (λ b. b && is_none (last_entered f.calls)) (bytes_self g) ∙ ap (λ (o : Option ℕ). is_none o) last

-- where a glyph's run fails in its own body, its fault is met there
pub own_met : (F : Failures) (g : List ℕ) (f : Failure) (es : List Entry) → F g ≡ Some f → last_entered f.calls ≡ None → Has (λ e. e.place ≡ places.Glyph g) es
    → own_fault (failed_runs F es) g ≡ Some (run_fault [] f)
own_met F g f es fails last there =
    let x = found_one (fails_in_glyph g) (FailsSo F) (run_of g f) (fails_there g f last) (failed_runs F es) (each_fails F es) (run_there F g f fails es there) in
    let glyph : g ≡ x.0.glyph = bytes_same g x.0.glyph (first_true (bytes_eq g x.0.glyph) (is_none (last_entered x.0.failure.calls)) x.2) in
    let same : Some x.0.failure ≡ Some f = sym x.3 ∙ ap F (sym glyph) ∙ fails in
    ap (option_map (λ (run : GlyphFailure). run_fault [] run.failure)) x.1 ∙ ap (option_map (run_fault [])) same

-- ---- in a Subr

-- one of the faults has this code and a chain of this glyph
abbrev pub HasMet : Code → List ℕ → List RunFault → Type 0
HasMet code g [] = ⊥
HasMet code g (f ∷ fs) = ((f.code ≡ code) × HasChain g f.chains) ⊎ HasMet code g fs

chain_there : (r : GlyphFailure) (xs : List GlyphFailure) → HasRun r xs → HasChain r.glyph (map chain_of xs)
chain_there r [] h = absurd h
chain_there r (x ∷ xs) (inl same) = inl (ap (λ (y : GlyphFailure). y.glyph) same)
chain_there r (x ∷ xs) (inr later) = inr (chain_there r xs later)

still_there : (test : GlyphFailure → Bool) (r : GlyphFailure) → test r ≡ true → (xs : List GlyphFailure) → HasRun r xs → HasRun r (filter test xs)
still_there test r t [] h = absurd h
still_there test r t (x ∷ xs) h = by (λ k. still_there test r t xs k) (test x) refl h where
  by : (HasRun r xs → HasRun r (filter test xs)) → (b : Bool) → test x ≡ b → HasRun r (x ∷ xs) → HasRun r (cond b (x ∷ filter test xs) (filter test xs))
  by below true e (inl same) = inl same
  by below true e (inr later) = inr (below later)
  by below false e (inl same) = let never : true ≡ false = sym t ∙ ap test (sym same) ∙ e in absurd (cc)
  by below false e (inr later) = below later

-- one of the runs fails by this code
abbrev HasCode : Code → List GlyphFailure → Type 0
HasCode code [] = ⊥
HasCode code (x ∷ xs) = (x.failure.code ≡ code) ⊎ HasCode code xs

pub one_code : (r x : GlyphFailure) → have_one_code r x ≡ true → r.failure.code ≡ x.failure.code
one_code r x h = same_true the_type (search rules) r.failure.code x.failure.code h

among_others : (code : Code) (r : GlyphFailure) (xs : List GlyphFailure) → HasCode code xs → HasCode code (r ∷ filter (λ x. not (have_one_code r x)) xs)
among_others code r [] h = absurd h
among_others code r (x ∷ xs) h = by (λ k. among_others code r xs k) (have_one_code r x) refl h where
  by : (HasCode code xs → HasCode code (r ∷ filter (λ y. not (have_one_code r y)) xs)) → (b : Bool) → have_one_code r x ≡ b → HasCode code (x ∷ xs)
      → HasCode code (r ∷ cond (not b) (x ∷ filter (λ y. not (have_one_code r y)) xs) (filter (λ y. not (have_one_code r y)) xs))
  by below true e (inl is) = inl (one_code r x e ∙ is)
  by below true e (inr later) = below later
  by below false e (inl is) = inr (inl is)
  by below false e (inr later) = elim (below later) [
    | inl first ↦ inl first
    | inr more ↦ inr (inr more)
  ]

code_there : (r : GlyphFailure) (xs : List GlyphFailure) → HasRun r xs → HasCode r.failure.code (first_by_code xs)
code_there r [] h = absurd h
code_there r (x ∷ xs) (inl same) = inl (ap (λ (y : GlyphFailure). y.failure.code) same)
code_there r (x ∷ xs) (inr later) = among_others r.failure.code x (first_by_code xs) (code_there r xs later)

shared_there : (r : GlyphFailure) (all : List GlyphFailure) → HasRun r all → (xs : List GlyphFailure) → HasCode r.failure.code xs → HasMet r.failure.code r.glyph (map (shared_fault all) xs)
shared_there r all there [] h = absurd h
shared_there r all there (x ∷ xs) (inl is) =
    inl (is, chain_there r (filter (have_one_code x) all) (still_there (have_one_code x) r (true_same the_type x.failure.code r.failure.code is) all there))
shared_there r all there (x ∷ xs) (inr later) = inr (shared_there r all there xs later)

fails_in : (n : ℕ) (r : GlyphFailure) → last_entered r.failure.calls ≡ Some n → fails_at_word n r.failure.word r ≡ true
fails_in n r last =
    let w = r.failure.word in
    ap (λ (o : Option ℕ). is_this_number n o && nat_eq w w) last ∙ ap (λ b. b && nat_eq w w) (numbers_tell.itself n) ∙ numbers_tell.itself w

-- the fault that a run met in a Subr is among those met there, with its chain
pub met_there : (r : GlyphFailure) (n : ℕ) (runs : List GlyphFailure) → HasRun r runs → last_entered r.failure.calls ≡ Some n → HasMet r.failure.code r.glyph (faults_at runs n r.failure.word)
met_there r n runs there last =
    let here = filter (fails_at_word n r.failure.word) runs in
    let kept = still_there (fails_at_word n r.failure.word) r (fails_in n r last) runs there in
    shared_there r here kept (first_by_code here) (code_there r here kept)

met_left : (code : Code) (g : List ℕ) (xs ys : List RunFault) → HasMet code g xs → HasMet code g (xs ++ ys)
met_left code g [] ys h = absurd h
met_left code g (x ∷ xs) ys (inl h) = inl h
met_left code g (x ∷ xs) ys (inr h) = inr (met_left code g xs ys h)

met_right : (code : Code) (g : List ℕ) (xs ys : List RunFault) → HasMet code g ys → HasMet code g (xs ++ ys)
met_right code g [] ys h = h
met_right code g (x ∷ xs) ys h = inr (met_right code g xs ys h)

-- so many numbers and one more
range_last : (a n : ℕ) → range_with_len a (suc n) ≡ range_with_len a n ++ (a + n) ∷ []
range_last a zero = let first : a ≡ a + 0 = omega arith in ap (λ k. k ∷ []) first
range_last a (suc n) = let last : a + 1 + n ≡ a + suc n = omega arith in ap (λ ks. a ∷ ks) (range_last (a + 1) n ∙ ap (λ k. range_with_len (a + 1) n ++ k ∷ []) last)

-- the faults at so many words and at one more
pub words_more : (f : ℕ → List RunFault) (n : ℕ) → flat_map f (range_with_len 0 (suc n)) ≡ flat_map f (range_with_len 0 n) ++ f n
words_more f n =
    let last : 0 + n ≡ n = omega arith in
    ap (flat_map f) (range_last 0 n ∙ ap (λ k. range_with_len 0 n ++ k ∷ []) last)
    ∙ flat_map-append f (range_with_len 0 n) (n ∷ []) ∙ ap (λ fs. flat_map f (range_with_len 0 n) ++ fs) (append-nil (f n))

-- what is met at a word is met at one of the words
pub met_at_word : (code : Code) (g : List ℕ) (f : ℕ → List RunFault) (count word : ℕ) → word < count → HasMet code g (f word) → HasMet code g (flat_map f (range_with_len 0 count))
met_at_word code g f zero word below h = absurd (omega (arith, below))
met_at_word code g f (suc n) word below h =
    subst (HasMet code g) (sym (words_more f n))
    (elim (cases_lt word n) [
      | inl before ↦ met_left code g (flat_map f (range_with_len 0 n)) (f n) (met_at_word code g f n word before h)
      | inr last ↦
          let same : word ≡ n = omega (arith, below, last) in
          met_right code g (flat_map f (range_with_len 0 n)) (f n) (subst (λ k. HasMet code g (f k)) same h)
    ])

-- ---- where no run fails

none_failing : (F : Failures) → ((g : List ℕ) → F g ≡ None) → (place : Place) → failed_run F place ≡ None
none_failing F none places.Nowhere = refl
none_failing F none (places.Line l) = refl
none_failing F none (places.Subr m) = refl
none_failing F none (places.Glyph g) = ap (option_map (run_of g)) (none g)

nothing_fails : (F : Failures) → ((g : List ℕ) → F g ≡ None) → (es : List Entry) → failed_runs F es ≡ []
nothing_fails F none [] = refl
nothing_fails F none (e ∷ es) = ap (λ o. cons_option o (failed_runs F es)) (none_failing F none e.place) ∙ nothing_fails F none es

nothing_at : (n count : ℕ) → flat_map (faults_at [] n) (range_with_len 0 count) ≡ []
nothing_at n zero = refl
nothing_at n (suc count) = words_more (faults_at [] n) count ∙ ap (λ fs. fs ++ []) (nothing_at n count)

-- nothing is met
pub nothing_met : (F : Failures) → ((g : List ℕ) → F g ≡ None) → (es : List Entry) (place : Place) (count : ℕ)
    → met_in (own_fault (failed_runs F es)) (faults_at (failed_runs F es)) place count ≡ []
nothing_met F none es place count = ap (λ runs. met_in (own_fault runs) (faults_at runs) place count) (nothing_fails F none es) ∙ by place where
  by : (p : Place) → met_in (own_fault []) (faults_at []) p count ≡ []
  by places.Nowhere = refl
  by (places.Line l) = refl
  by (places.Subr n) = nothing_at n count
  by (places.Glyph g) = refl
