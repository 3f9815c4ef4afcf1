-- Each fault that is found stands in the entry of its place, and tells the word that it is of.
use Rattle.std.proofs.Common.{◌≡◌, ◌∙◌, ℕ, zero, suc, Bool, true, false, cond, ◌&&◌, ◌+◌, ◌≤◌, List, [], ◌∷◌, ◌++◌, length, map, filter, Option, None, Some, Result, Ok, Err, refl, sym, ap, subst, inl, inr, arith}
use Rattle.std.specs.Prelude.{IfSome, ◌==◌, is_none, nat_eq, nat_lt, not, slice_get, flat_map, option_map}
use Rattle.std.specs.List.{AllByRecursion, after_first, before_first, find, list_any, prefix_len, position_or_len, range_with_len}
use Rattle.std.specs.Option.{option_and_then, option_to_list}
use Rattle.std.specs.Str.{bytes_eq}
use Rattle.std.proofs.lemmas.Bool.{cases_Bool, ltb-true}
use denote.Enum.Bare.{true_same}
use Rattle.t1_frac.specs.contracts.fault.Code.{the_type}
use Rattle.t1_frac.specs.declared.fault.Code.{Code}
use Rattle.t1_frac.specs.declared.fault.Code.TheVariants.{F22}
use Rattle.t1_frac.specs.declared.fault.Fault.{Fault}
use Rattle.t1_frac.specs.declared.fault.Place.{Place}
use Rattle.t1_frac.specs.declared.fault.Place.TheVariants as places
use Rattle.t1_text.specs.Delimiters.{is_brace}
use Rattle.t1_text.specs.Lines.{lines}
use Rattle.t1_text.specs.Tokens.{uncommented}
use Rattle.t1_parts.specs.Entries.{has_brace}
use Rattle.t1_parts.specs.Parts.{parts_of}
use Rattle.t1_parts.specs.Reading.{reads}
use Rattle.t1_parts.specs.SourceParts.{SourceParts}
use Rattle.t1_parts.specs.declared.item.Item.{Item}
use Rattle.t1_code.specs.Words.{command_of_word}
use Rattle.t1_code.specs.declared.command.Command.{Command}
use Rattle.t1_run.specs.Run.{own}
use Rattle.t1_run.proofs.Asked.{bytes_same}
use Rattle.t1_font.specs.Assembly.{file_check}
use Rattle.t1_font.specs.Bodies.{bodies_check}
use Rattle.t1_font.specs.Glyphs.{glyph_names}
use Rattle.t1_font.specs.ToRun.{font_to_run, glyph_to_run}
use Rattle.t1_font.proofs.Lookups.{numbers_tell}
use Rattle.t1_chain.specs.Failing.{failure_in}
use Rattle.t1_chain.specs.GlyphFailures.{GlyphFailure}
use Rattle.t1_chain.proofs.LeadingLaws.{calls_lead}
use Rattle.t1_faults.specs.declared.found.FoundFault.{FoundFault}
use Rattle.t1_faults.specs.declared.placed.PlacedWord.{PlacedWord}
use Rattle.t1_faults.specs.declared.run_fault.RunFault.{RunFault}
use Rattle.t1_faults.specs.Composites.{composites_of, each_with}
use Rattle.t1_faults.specs.Entries.{Entry, placed_words}
use Rattle.t1_faults.specs.Failing.{failures_in, is_faulty_subr, told_failure}
use Rattle.t1_faults.specs.FaultPlaces.{FailsThere, HasEntry, IsOfEntry, LeadsThere, StandsIn, StandsThere, Tells, last_line, place_in_run}
use Rattle.t1_faults.specs.Found.{at_entry, at_place, body_faults, in_entry, length_faults, word_faults}
use Rattle.t1_faults.specs.Judging.{entries_in, entry_faults, faults_alone, faults_read, file_faults, join_fault, join_faults, or_else, run_faults, source_faults}
use Rattle.t1_faults.specs.Met.{chain_of, failed_runs, fails_at_word, fails_in_glyph, faults_at, first_by_code, have_one_code, last_entered, met_in, own_fault, run_fault, shared_fault}
use Rattle.t1_faults.specs.Openings.{is_this_number}
use Rattle.t1_faults.specs.Placed.{columns_from, on_line, placed_body, placed_line}
use Rattle.t1_faults.proofs.CheckLaws.{same_told}
use Rattle.t1_faults.proofs.MetLaws.{FailsSo, each_fails, first_true, one_code}
use Rattle.t1_faults.proofs.PlacedLaws.{all_append}

-- ---- all of a list

all_of : {X : Type 0} (P Q : X → Type 0) → ((x : X) → P x → Q x) → (xs : List X) → AllByRecursion P xs → AllByRecursion Q xs
all_of P Q f [] h = tt
all_of P Q f (x ∷ xs) h = (f x h.0, all_of P Q f xs h.1)

all_there : {X : Type 0} (P : X → Type 0) (xs : List X) → AllByRecursion P xs → (k : ℕ) → IfSome (slice_get xs k) P
all_there P [] h k = tt
all_there P (x ∷ xs) h zero = h.0
all_there P (x ∷ xs) h (suc k) = all_there P xs h.1 k

all_kept : {X : Type 0} (test : X → Bool) (P : X → Type 0) (xs : List X) → AllByRecursion P xs → AllByRecursion (λ x. P x × (test x ≡ true)) (filter test xs)
all_kept test P [] h = tt
all_kept test P (x ∷ xs) h = by (all_kept test P xs h.1) (test x) refl where
  by : AllByRecursion (λ y. P y × (test y ≡ true)) (filter test xs) → (b : Bool) → test x ≡ b → AllByRecursion (λ y. P y × (test y ≡ true)) (cond b (x ∷ filter test xs) (filter test xs))
  by below true e = ((h.0, e), below)
  by below false e = below

all_flat : {X Y : Type 0} (P : Y → Type 0) (f : X → List Y) (xs : List X) → ((x : X) → AllByRecursion P (f x)) → AllByRecursion P (flat_map f xs)
all_flat P f [] h = tt
all_flat P f (x ∷ xs) h = all_append P (f x) (flat_map f xs) (h x) (all_flat P f xs h)

all_else : (P : FoundFault → Type 0) (xs ys : List FoundFault) → AllByRecursion P xs → AllByRecursion P ys → AllByRecursion P (or_else xs ys)
all_else P [] ys h k = k
all_else P (x ∷ xs) ys h k = h

-- ---- the lines of an entry's words

abbrev InLines : ℕ → ℕ → PlacedWord → Type 0
InLines first last w = (first ≤ w.line) × (w.line ≤ last)

on_one : (first last n : ℕ) → first ≤ n → n ≤ last → (ws : List (ℕ × List ℕ)) → AllByRecursion (InLines first last) (map (on_line n) ws)
on_one first last n below above [] = tt
on_one first last n below above (w ∷ ws) = ((below, above), on_one first last n below above ws)

body_lines : (n c : ℕ) (ls : List (List ℕ)) → AllByRecursion (InLines n (n + prefix_len (λ l. not (has_brace l)) ls)) (placed_body n c ls)
body_lines n c [] = tt
body_lines n c (l ∷ ls) = by (body_lines (n + 1) 1 ls) (has_brace l) where
  later : ℕ
  later = prefix_len (λ x. not (has_brace x)) ls

  by : AllByRecursion (InLines (n + 1) (n + 1 + later)) (placed_body (n + 1) 1 ls) → (b : Bool)
      → AllByRecursion (InLines n (n + cond (not b) (1 + later) 0)) (cond b (placed_line n c (before_first is_brace l)) (placed_line n c (uncommented l) ++ placed_body (n + 1) 1 ls))
  by below true = on_one n (n + 0) n (omega arith) (omega arith) (columns_from c (before_first is_brace l))
  by below false =
      all_append (InLines n (n + (1 + later))) (placed_line n c (uncommented l)) (placed_body (n + 1) 1 ls)
      (on_one n (n + (1 + later)) n (omega arith) (omega arith) (columns_from c (uncommented l)))
      (all_of (InLines (n + 1) (n + 1 + later)) (InLines n (n + (1 + later))) (λ w h. (omega (arith, h.0), omega (arith, h.1))) (placed_body (n + 1) 1 ls) below)

entry_lines : (e : Entry) → AllByRecursion (InLines e.number (last_line e)) (placed_words e)
entry_lines e = body_lines e.number (position_or_len (λ c. c == 123) e.line + 2) (after_first (λ c. c == 123) e.line ∷ e.later)

whole_in : (e : Entry) (code : Code) → StandsIn e (at_entry e code)
whole_in e code = (refl, omega arith, omega arith)

-- ---- the faults of a body's words

words_found : (s : SourceParts) (e : Entry) (ws : List PlacedWord) (k : ℕ) → ((i : ℕ) → slice_get (placed_words e) (k + i) ≡ slice_get ws i) → AllByRecursion (InLines e.number (last_line e)) ws
    → AllByRecursion (IsOfEntry s e) (word_faults e.place ws)
words_found s e [] k at h = tt
words_found s e (w ∷ ws) k at h = by (words_found s e ws (k + 1) next h.1) (command_of_word w.word) refl where
  next : (i : ℕ) → slice_get (placed_words e) (k + 1 + i) ≡ slice_get ws i
  next i =
      let same : k + 1 + i ≡ k + suc i = omega arith in
      ap (slice_get (placed_words e)) same ∙ at (suc i)

  by : AllByRecursion (IsOfEntry s e) (word_faults e.place ws) → (r : Result Command Code) → command_of_word w.word ≡ r → AllByRecursion (IsOfEntry s e) (word_faults e.place (w ∷ ws))
  by below (Ok c) is = rw is below
  by below (Err code) is =
      let here : k ≡ k + 0 = omega arith in
      let there : slice_get (placed_words e) k ≡ Some w = ap (slice_get (placed_words e)) here ∙ at 0 in
      rw is (((refl, h.0.0, h.0.1), inl (k, w, there, is, (refl, refl))), below)

body_found : (s : SourceParts) (e : Entry) → AllByRecursion (IsOfEntry s e) (body_faults e)
body_found s e =
    all_append (IsOfEntry s e) (length_faults e (placed_words e)) (word_faults e.place (placed_words e)) lengths
    (words_found s e (placed_words e) 0 (λ i. ap (slice_get (placed_words e)) (zero_add i)) (entry_lines e))
  where
    zero_add : (i : ℕ) → 0 + i ≡ i
    zero_add i = omega arith

    lengths : AllByRecursion (IsOfEntry s e) (length_faults e (placed_words e))
    lengths = elim (cases_Bool (nat_lt 65535 (length (placed_words e)))) [
      | inl long ↦ rw long ((whole_in e F22, inr (inl (refl, ltb-true 65535 (length (placed_words e)) long, (refl, refl)))), tt)
      | inr short ↦ rw short tt
    ]

-- ---- what runs met

-- this run fails in this body, by the code of this fault and at its word
abbrev Fails : List Item → Place → RunFault → GlyphFailure → Type 0
Fails items place f run =
    FailsSo (failures_in items) run × (run.failure.code ≡ f.code) × (place_in_run run.glyph (last_entered run.failure.calls) ≡ place) × (run.failure.word ≡ f.word)

-- a run met the fault, and so did the run of each chain
abbrev AreMet : List Item → Place → RunFault → Type 0
AreMet items place f = ((run : GlyphFailure) × Fails items place f run) × AllByRecursion (λ chain. (run : GlyphFailure) × (chain_of run ≡ chain) × Fails items place f run) f.chains

led_there : (items : List Item) (run : GlyphFailure) → FailsSo (failures_in items) run → LeadsThere items run
led_there items run e = by (glyph_to_run items run.glyph) refl e where
  by : (body : Option (List Command)) → glyph_to_run items run.glyph ≡ body
      → option_and_then (told_failure (λ n. list_any (is_faulty_subr n) items)) (option_and_then (failure_in (font_to_run items)) body) ≡ Some run.failure → LeadsThere items run
  by None is h = absurd (cc)
  by (Some body) is h = (body, is, calls_lead (font_to_run items) body run.failure (same_told (λ n. list_any (is_faulty_subr n) items) (failure_in (font_to_run items) body) run.failure h))

placed_found : (s : SourceParts) (e : Entry) (o : Option PlacedWord) (f : RunFault) → slice_get (placed_words e) f.word ≡ o → IfSome o (InLines e.number (last_line e)) → AreMet s.items e.place f
    → IsOfEntry s e (at_place e o f)
placed_found s e None f is lines met = (whole_in e f.code, inr (inr (inl ((met.0.0, there met.0.0 met.0.1), all_of _ _ (λ chain h. (h.0, h.1, there h.0 h.2)) f.chains met.1)))) where
  there : (run : GlyphFailure) → Fails s.items e.place f run → FailsThere s.items e (at_place e None f) run
  there run h = (h.0, h.1, h.2, subst (λ w. Tells e w (at_place e None f)) (sym (ap (slice_get (placed_words e)) h.3 ∙ is)) (refl, refl), led_there s.items run h.0)
placed_found s e (Some w) f is lines met = ((refl, lines.0, lines.1), inr (inr (inl ((met.0.0, there met.0.0 met.0.1), all_of _ _ (λ chain h. (h.0, h.1, there h.0 h.2)) f.chains met.1)))) where
  there : (run : GlyphFailure) → Fails s.items e.place f run → FailsThere s.items e (at_place e (Some w) f) run
  there run h = (h.0, h.1, h.2, subst (λ x. Tells e x (at_place e (Some w) f)) (sym (ap (slice_get (placed_words e)) h.3 ∙ is)) (refl, refl), led_there s.items run h.0)

mets_found : (s : SourceParts) (e : Entry) (fs : List RunFault) → AllByRecursion (AreMet s.items e.place) fs → AllByRecursion (IsOfEntry s e) (map (in_entry e (placed_words e)) fs)
mets_found s e [] h = tt
mets_found s e (f ∷ fs) h =
    (placed_found s e (slice_get (placed_words e) f.word) f refl (all_there (InLines e.number (last_line e)) (placed_words e) (entry_lines e) f.word) h.0, mets_found s e fs h.1)

-- in a glyph's own body
no_subr : (o : Option ℕ) → is_none o ≡ true → o ≡ None
no_subr None h = refl
no_subr (Some n) h = absurd (cc)

second_true : (a b : Bool) → (a && b) ≡ true → b ≡ true
second_true true b h = h
second_true false b h = absurd (cc)

found_is : (test : GlyphFailure → Bool) (P : GlyphFailure → Type 0) (xs : List GlyphFailure) (r : GlyphFailure) → AllByRecursion P xs → find test xs ≡ Some r → P r × (test r ≡ true)
found_is test P [] r all h = absurd (cc)
found_is test P (x ∷ xs) r all h = by (λ k. found_is test P xs r all.1 k) (test x) refl h where
  by : (find test xs ≡ Some r → P r × (test r ≡ true)) → (b : Bool) → test x ≡ b → cond b (Some x) (find test xs) ≡ Some r → P r × (test r ≡ true)
  by below true e k = let same : x ≡ r = cc in subst (λ y. P y × (test y ≡ true)) same (all.0, e)
  by below false e k = below k

own_met_there : (items : List Item) (failed : List GlyphFailure) (g : List ℕ) → AllByRecursion (FailsSo (failures_in items)) failed
    → AllByRecursion (AreMet items (places.Glyph g)) (option_to_list (own_fault failed g))
own_met_there items failed g all = by (find (fails_in_glyph g) failed) refl where
  by : (o : Option GlyphFailure) → find (fails_in_glyph g) failed ≡ o → AllByRecursion (AreMet items (places.Glyph g)) (option_to_list (option_map (λ (run : GlyphFailure). run_fault [] run.failure) o))
  by None e = tt
  by (Some r) e =
      let x = found_is (fails_in_glyph g) (FailsSo (failures_in items)) failed r all e in
      let glyph : g ≡ r.glyph = bytes_same g r.glyph (first_true (bytes_eq g r.glyph) (is_none (last_entered r.failure.calls)) x.1) in
      let last : last_entered r.failure.calls ≡ None = no_subr (last_entered r.failure.calls) (second_true (bytes_eq g r.glyph) (is_none (last_entered r.failure.calls)) x.1) in
      let place : place_in_run r.glyph (last_entered r.failure.calls) ≡ places.Glyph g = ap (place_in_run r.glyph) last ∙ ap (λ n. places.Glyph n) (sym glyph) in
      (((r, (x.0, refl, place, refl)), tt), tt)

-- in a Subr
abbrev FailsAt : List Item → ℕ → ℕ → GlyphFailure → Type 0
FailsAt items n k r = FailsSo (failures_in items) r × (fails_at_word n k r ≡ true)

this_number : (n : ℕ) (o : Option ℕ) → is_this_number n o ≡ true → o ≡ Some n
this_number n None h = absurd (cc)
this_number n (Some m) h = ap Some (sym (numbers_tell.same n m h))

first_of_each : (P : GlyphFailure → Type 0) (runs : List GlyphFailure) → AllByRecursion P runs → AllByRecursion P (first_by_code runs)
first_of_each P [] h = tt
first_of_each P (r ∷ runs) h =
    (h.0, all_of _ P (λ x k. k.0) (filter (λ x. not (have_one_code r x)) (first_by_code runs)) (all_kept (λ x. not (have_one_code r x)) P (first_by_code runs) (first_of_each P runs h.1)))

fails_as : (items : List Item) (n k : ℕ) (x r : GlyphFailure) (f : RunFault) → FailsAt items n k x → FailsAt items n k r → have_one_code x r ≡ true → f.code ≡ x.failure.code → f.word ≡ x.failure.word
    → Fails items (places.Subr n) f r
fails_as items n k x r f h j one code word =
    let in_subr = first_true (is_this_number n (last_entered r.failure.calls)) (nat_eq k r.failure.word) j.1 in
    let at_r : k ≡ r.failure.word = numbers_tell.same k r.failure.word (second_true (is_this_number n (last_entered r.failure.calls)) (nat_eq k r.failure.word) j.1) in
    let at_x : k ≡ x.failure.word = numbers_tell.same k x.failure.word (second_true (is_this_number n (last_entered x.failure.calls)) (nat_eq k x.failure.word) h.1) in
    (j.0, sym (one_code x r one) ∙ sym code, ap (place_in_run r.glyph) (this_number n (last_entered r.failure.calls) in_subr), sym at_r ∙ at_x ∙ sym word)

itself : (x : GlyphFailure) → have_one_code x x ≡ true
itself x = true_same the_type x.failure.code x.failure.code refl

chains_met : (items : List Item) (n k : ℕ) (x : GlyphFailure) (f : RunFault) (runs : List GlyphFailure) → FailsAt items n k x → f.code ≡ x.failure.code → f.word ≡ x.failure.word
    → AllByRecursion (λ r. FailsAt items n k r × (have_one_code x r ≡ true)) runs
    → AllByRecursion (λ chain. (run : GlyphFailure) × (chain_of run ≡ chain) × Fails items (places.Subr n) f run) (map chain_of runs)
chains_met items n k x f [] h code word all = tt
chains_met items n k x f (r ∷ runs) h code word all = ((r, refl, fails_as items n k x r f h all.0.0 all.0.1 code word), chains_met items n k x f runs h code word all.1)

shared_met : (items : List Item) (n k : ℕ) (runs : List GlyphFailure) → AllByRecursion (FailsAt items n k) runs → (xs : List GlyphFailure) → AllByRecursion (FailsAt items n k) xs
    → AllByRecursion (AreMet items (places.Subr n)) (map (shared_fault runs) xs)
shared_met items n k runs all [] h = tt
shared_met items n k runs all (x ∷ xs) h =
    let f = shared_fault runs x in
    (((x, fails_as items n k x x f h.0 h.0 (itself x) refl refl), chains_met items n k x f (filter (have_one_code x) runs) h.0 refl refl (all_kept (have_one_code x) (FailsAt items n k) runs all)), shared_met items n k runs all xs h.1)

subr_met_there : (items : List Item) (failed : List GlyphFailure) (n k : ℕ) → AllByRecursion (FailsSo (failures_in items)) failed → AllByRecursion (AreMet items (places.Subr n)) (faults_at failed n k)
subr_met_there items failed n k all =
    let runs = filter (fails_at_word n k) failed in
    let each = all_kept (fails_at_word n k) (FailsSo (failures_in items)) failed all in
    shared_met items n k runs each (first_by_code runs) (first_of_each (FailsAt items n k) runs each)

met_there_all : (items : List Item) (failed : List GlyphFailure) (place : Place) (count : ℕ) → AllByRecursion (FailsSo (failures_in items)) failed
    → AllByRecursion (AreMet items place) (met_in (own_fault failed) (faults_at failed) place count)
met_there_all items failed places.Nowhere count all = tt
met_there_all items failed (places.Line l) count all = tt
met_there_all items failed (places.Subr n) count all = all_flat (AreMet items (places.Subr n)) (faults_at failed n) (range_with_len 0 count) (λ k. subr_met_there items failed n k all)
met_there_all items failed (places.Glyph g) count all = own_met_there items failed g all

-- ---- all faults of a source

entry_found : (s : SourceParts) (failed : List GlyphFailure) (e : Entry) → AllByRecursion (FailsSo (failures_in s.items)) failed
    → AllByRecursion (IsOfEntry s e) (entry_faults (own_fault failed) (faults_at failed) e)
entry_found s failed e all =
    all_else (IsOfEntry s e) (body_faults e) (run_faults (own_fault failed) (faults_at failed) e) (body_found s e)
    (mets_found s e (met_in (own_fault failed) (faults_at failed) e.place (length (placed_words e))) (met_there_all s.items failed e.place (length (placed_words e)) all))

join_found : (s : SourceParts) (e : Entry) → AllByRecursion (IsOfEntry s e) (join_faults (own (font_to_run s.items)) e)
join_found s e = by (join_fault (own (font_to_run s.items)) e.place) refl where
  by : (o : Option Code) → join_fault (own (font_to_run s.items)) e.place ≡ o → AllByRecursion (IsOfEntry s e) (option_to_list (option_map (at_entry e) o))
  by None is = tt
  by (Some code) is = ((whole_in e code, inr (inr (inr (is, (refl, refl))))), tt)

among_entries : (s : SourceParts) (all : List Entry) (f : Entry → List FoundFault) → ((e : Entry) → AllByRecursion (IsOfEntry s e) (f e)) → (es : List Entry)
    → ((e : Entry) → HasEntry e es → HasEntry e all) → AllByRecursion (StandsThere s all) (flat_map f es)
among_entries s all f each [] within = tt
among_entries s all f each (e ∷ es) within =
    all_append (StandsThere s all) (f e) (flat_map f es)
    (all_of (IsOfEntry s e) (StandsThere s all) (λ fault h. inr (e, within e (inl refl), h)) (f e) (each e))
    (among_entries s all f each es (λ x h. within x (inr h)))

file_found : (s : SourceParts) (es : List Entry) (bodies file : Result (Unit {0}) Fault) → file_check s ≡ file → AllByRecursion (StandsThere s es) (file_faults bodies file)
file_found s es (Ok u) (Ok v) is = tt
file_found s es (Ok u) (Err fault) is = (inl ((fault, is, refl, refl), refl, refl), tt)
file_found s es (Err first) file is = tt

alone_found : (s : SourceParts) (es : List Entry) → AllByRecursion (StandsThere s es) (faults_alone s es)
alone_found s es =
    let run = own (font_to_run s.items) in
    let failed = failed_runs (failures_in s.items) es in
    let mine = flat_map (entry_faults (own_fault failed) (faults_at failed)) es in
    let file = file_faults (bodies_check s.items) (file_check s) in
    let joins = flat_map (join_faults run) es in
    all_append (StandsThere s es) mine (file ++ joins)
    (among_entries s es (entry_faults (own_fault failed) (faults_at failed)) (λ e. entry_found s failed e (each_fails (failures_in s.items) es)) es (λ e h. h))
    (all_append (StandsThere s es) file joins (file_found s es (bodies_check s.items) (file_check s) refl) (among_entries s es (join_faults run) (join_found s) es (λ e h. h)))

found_still : (s : SourceParts) (es : List Entry) (composites : List FoundFault → FoundFault → List (List ℕ)) (before faults : List FoundFault) → AllByRecursion (StandsThere s es) faults
    → AllByRecursion (StandsThere s es) (each_with composites before faults)
found_still s es composites before [] h = tt
found_still s es composites before (fault ∷ faults) h = (h.0, found_still s es composites (before ++ fault ∷ []) faults h.1)

-- each fault of a source that was read stands there
pub each_stands : (bytes : List ℕ) (s : SourceParts) → reads bytes ≡ Ok s → AllByRecursion (StandsThere s (entries_in (parts_of (lines bytes)) s)) (source_faults bytes)
each_stands bytes s e =
    let es = entries_in (parts_of (lines bytes)) s in
    subst (λ r. AllByRecursion (StandsThere s es) (faults_read (lines bytes) r)) (sym e)
    (found_still s es (composites_of (own (font_to_run s.items)) (glyph_names s.items)) [] (faults_alone s es) (alone_found s es))
