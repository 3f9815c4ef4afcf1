-- What check reports is told, or stands on what is told.
use Rattle.std.proofs.Common.{◌≡◌, ◌∙◌, ℕ, zero, suc, Bool, true, false, cond, ◌||◌, ◌<◌, ◌⊎◌, List, [], ◌∷◌, ◌++◌, length, map, Option, None, Some, Result, Ok, Err, refl, sym, ap, subst, inl, inr, arith}
use Rattle.std.specs.Prelude.{nat_lt, flat_map, option_map, slice_get}
use Rattle.std.specs.List.{list_any, range_with_len}
use Rattle.std.specs.Option.{option_to_list}
use Rattle.std.specs.Str.{bytes_eq}
use Rattle.std.proofs.lemmas.Bool.{cases_Bool}
use Rattle.t1_frac.specs.Outcome.{fault_at, reported_at, ◌>>=◌}
use Rattle.t1_frac.specs.declared.fault.Code.{Code}
use Rattle.t1_frac.specs.declared.fault.Code.TheVariants.{F22}
use Rattle.t1_frac.specs.declared.fault.Fault.{Fault}
use Rattle.t1_frac.specs.declared.fault.Place.{Place}
use Rattle.t1_frac.specs.declared.fault.Place.TheVariants as places
use Rattle.t1_frac.specs.declared.fault.Refusal.TheVariants as refusals
use Rattle.t1_text.specs.Lines.{lines}
use Rattle.t1_parts.specs.declared.item.Item.{Item}
use Rattle.t1_parts.specs.declared.item.Item.TheVariants.{Plain, Section, Subr, Glyph}
use Rattle.t1_parts.specs.Parts.{parts_of}
use Rattle.t1_parts.specs.Reading.{reads}
use Rattle.t1_parts.specs.SourceParts.{SourceParts}
use Rattle.t1_code.specs.declared.command.Command.{Command}
use Rattle.t1_code.specs.Words.{command_of_word, command_then, commands, commands_of_words}
use Rattle.t1_afm.specs.Box.{united}
use Rattle.t1_run.specs.declared.outline.Composite.{Composite}
use Rattle.t1_run.specs.Run.{Drawing, own}
use Rattle.t1_run.proofs.Asked.{bytes_same, bytes_self}
use Rattle.t1_font.specs.declared.glyph_metrics.GlyphMetrics.{GlyphMetrics}
use Rattle.t1_font.specs.Assembly.{file_check}
use Rattle.t1_font.specs.Bodies.{bodies_check, words_check}
use Rattle.t1_font.specs.Glyphs.{glyph_names}
use Rattle.t1_font.specs.MeasuredGlyphs.{MeasuredFont, glyph_metrics_at, measured}
use Rattle.t1_font.specs.MetricsByRuns.{glyph_metrics_among}
use Rattle.t1_font.specs.SourceChecks.{measured_source, source_check}
use Rattle.t1_font.specs.ToRun.{font_to_run}
use Rattle.t1_font.proofs.Gathering.{put_after, one-refused, one-reported}
use Rattle.t1_font.proofs.LengthLaws.{body_fault_reported}
use Rattle.t1_font.proofs.Measuring.{all-refused, all-reported}
use Rattle.t1_font.proofs.MeasuringTurns.{runs-own}
use Rattle.t1_chain.specs.Failing.{Failure}
use Rattle.t1_faults.specs.declared.found.FoundFault.{FoundFault}
use Rattle.t1_faults.specs.declared.placed.PlacedWord.{PlacedWord}
use Rattle.t1_faults.specs.declared.run_fault.RunFault.{RunFault}
use Rattle.t1_faults.specs.Entries.{Entry, placed_words}
use Rattle.t1_faults.specs.Failing.{failures_in}
use Rattle.t1_faults.specs.Found.{at_entry, at_place, body_faults, refused_code, in_entry, length_faults, met_faults, word_faults}
use Rattle.t1_faults.specs.Met.{failed_runs, faults_at, last_entered, met_in, own_fault, run_fault}
use Rattle.t1_chain.specs.GlyphFailures.{GlyphFailure}
use Rattle.t1_faults.specs.Composites.{OwnRuns, composites_of}
use Rattle.t1_faults.specs.Judging.{checked, entries_in, entry_faults, first_fault_of_run, faults_alone, faults_among, faults_read, file_faults, join_fault, join_faults, or_else, run_faults, sound_parts, sound_run, sound_within, source_faults}
use Rattle.t1_faults.specs.Reading.{placed_reading, reading_fault}
use Rattle.t1_faults.specs.Telling.{HasChain, IsAccountedFor, IsMet, IsNamed, IsTold, StandsOn, runs_read}
use Rattle.t1_faults.proofs.CheckLaws.{absent, leads}
use Rattle.t1_faults.proofs.CompositeLaws.{answered_still}
use Rattle.t1_faults.proofs.EntryLaws.{read_entries}
use Rattle.t1_faults.proofs.FailureLaws.{runs_told}
use Rattle.t1_faults.proofs.MetLaws.{Has, HasMet, IsSubr, both, glyph_there, last_there, met_at_word, met_there, own_met, run_of, run_there, subr_there}
use Rattle.t1_faults.proofs.SoundLaws.{bodies_fine, long_as}
use Rattle.t1_faults.proofs.StandingOnLaws.{named_on, named_told, naming}
use Rattle.t1_faults.proofs.TakenLaws.{AreOf}

pub told_left : (code : Code) (place : Place) (xs ys : List FoundFault) → IsTold code place xs → IsTold code place (xs ++ ys)
told_left code place [] ys h = absurd h
told_left code place (x ∷ xs) ys (inl h) = inl h
told_left code place (x ∷ xs) ys (inr h) = inr (told_left code place xs ys h)

pub told_right : (code : Code) (place : Place) (xs ys : List FoundFault) → IsTold code place ys → IsTold code place (xs ++ ys)
told_right code place [] ys h = h
told_right code place (x ∷ xs) ys h = inr (told_right code place xs ys h)

pub told_first : (code : Code) (place : Place) (xs ys : List FoundFault) → IsTold code place xs → IsTold code place (or_else xs ys)
told_first code place [] ys h = absurd h
told_first code place (x ∷ xs) ys h = h

-- ---- a body

words_told : (place : Place) (ws : List PlacedWord) (code : Code) → commands_of_words (map (λ w. w.word) ws) ≡ Err code → IsTold code place (word_faults place ws)
words_told place [] code e = absurd (cc)
words_told place (w ∷ ws) code e = by (λ h. words_told place ws code h) (command_of_word w.word) refl where
  rest : (commands_of_words (map (λ w. w.word) ws) ≡ Err code → IsTold code place (word_faults place ws)) → (c : Command) (r : Result (List Command) Code) → commands_of_words (map (λ w. w.word) ws) ≡ r → command_then (Ok c) r ≡ Err code → IsTold code place (word_faults place ws)
  rest below c (Ok cs) f h = absurd (cc)
  rest below c (Err other) f h = let same : other ≡ code = cc in below (f ∙ ap Err same)

  by : (commands_of_words (map (λ w. w.word) ws) ≡ Err code → IsTold code place (word_faults place ws)) → (r : Result Command Code) → command_of_word w.word ≡ r → IsTold code place (word_faults place (w ∷ ws))
  by below (Ok c) h =
      let all : command_then (Ok c) (commands_of_words (map (λ w. w.word) ws)) ≡ Err code = rw h at e in
      rw h (rest below c (commands_of_words (map (λ w. w.word) ws)) refl all)
  by below (Err other) h =
      let first : ◌≡◌ {A = Result (List Command) Code} (Err other) (Err code) = rw h at e in
      let same : other ≡ code = cc in
      rw h (inl (same, refl))

pub body_told : (e : Entry) (ws : List (List ℕ)) (code : Code) → map (λ w. w.word) (placed_words e) ≡ ws → commands ws ≡ Err code → IsTold code e.place (body_faults e)
unfolding commands
body_told e ws code is refused =
    elim (cases_Bool (nat_lt 65535 (length ws))) [
      | inl long ↦
          let first : ◌≡◌ {A = Result (List Command) Code} (Err F22) (Err code) = rw long at refused in
          let same : F22 ≡ code = cc in
          let count : nat_lt 65535 (length (placed_words e)) ≡ true = ap (nat_lt 65535) (sym (long_as (placed_words e)) ∙ ap length is) ∙ long in
          told_left code e.place (length_faults e (placed_words e)) (word_faults e.place (placed_words e)) (rw count (inl (same, refl)))
      | inr short ↦
          let read : commands_of_words ws ≡ Err code = rw short at refused in
          told_right code e.place (length_faults e (placed_words e)) (word_faults e.place (placed_words e))
          (words_told e.place (placed_words e) code (ap commands_of_words is ∙ read))
    ]

words_fault : (place : Place) (ws : List (List ℕ)) (r : Result (List Command) Code) → commands ws ≡ r → (words_check place ws ≡ Ok tt) ⊎ ((code : Code) × (commands ws ≡ Err code) × (words_check place ws ≡ Err (fault_at place code)))
unfolding words_check
words_fault place ws (Ok cs) h = inl (rw h refl)
words_fault place ws (Err code) h = inr (code, h, rw h refl)

-- the first fault of bodies is that of an entry, or of one after it
entry_told : (in_glyph : List ℕ → Option RunFault) (in_subr : ℕ → ℕ → List RunFault) (x : Entry) (es : List Entry) (fault : Fault) (place : Place) (words : List (List ℕ)) (next : Result (Unit {0}) Fault)
    → x.place ≡ place → map (λ w. w.word) (placed_words x) ≡ words → ◌≡◌ {A = Result (Unit {0}) Fault} (words_check place words >>= λ _. next) (Err fault)
    → (words_check place words ≡ Ok tt) ⊎ ((code : Code) × (commands words ≡ Err code) × (words_check place words ≡ Err (fault_at place code)))
    → (next ≡ Err fault → IsTold fault.code fault.place (flat_map (entry_faults in_glyph in_subr) es))
    → IsTold fault.code fault.place (entry_faults in_glyph in_subr x ++ flat_map (entry_faults in_glyph in_subr) es)
entry_told in_glyph in_subr x es fault place words next stands is e (inl passed) later =
    let left : next ≡ Err fault = rw passed at e in
    told_right fault.code fault.place (entry_faults in_glyph in_subr x) (flat_map (entry_faults in_glyph in_subr) es) (later left)
entry_told in_glyph in_subr x es fault place words next stands is e (inr w) later =
    let first : ◌≡◌ {A = Result (Unit {0}) Fault} (Err (fault_at place w.0)) (Err fault) = rw w.2 at e in
    let same : fault_at place w.0 ≡ fault = cc in
    let here : IsTold w.0 x.place (body_faults x) = body_told x words w.0 is w.1 in
    let there = told_left w.0 x.place (entry_faults in_glyph in_subr x) (flat_map (entry_faults in_glyph in_subr) es) (told_first w.0 x.place (body_faults x) (run_faults in_glyph in_subr x) here) in
    let placed = subst (λ p. IsTold w.0 p (entry_faults in_glyph in_subr x ++ flat_map (entry_faults in_glyph in_subr) es)) stands there in
    subst (λ (f : Fault). IsTold f.code f.place (entry_faults in_glyph in_subr x ++ flat_map (entry_faults in_glyph in_subr) es)) same placed

bodies_told : (in_glyph : List ℕ → Option RunFault) (in_subr : ℕ → ℕ → List RunFault) (items : List Item) (es : List Entry) (fault : Fault) → AreOf items es → bodies_check items ≡ Err fault
    → IsTold fault.code fault.place (flat_map (entry_faults in_glyph in_subr) es)
bodies_told in_glyph in_subr [] es fault are e = absurd (cc)
bodies_told in_glyph in_subr (Plain l ∷ items) es fault are e = bodies_told in_glyph in_subr items es fault are e
bodies_told in_glyph in_subr (Section before n after ∷ items) es fault are e = bodies_told in_glyph in_subr items es fault are e
bodies_told in_glyph in_subr (Subr n words closing ∷ items) [] fault are e = absurd are
bodies_told in_glyph in_subr (Subr n words closing ∷ items) (x ∷ es) fault are e =
    entry_told in_glyph in_subr x es fault (places.Subr n) words (bodies_check items) are.0 are.1 e (words_fault (places.Subr n) words (commands words) refl)
    (λ later. bodies_told in_glyph in_subr items es fault are.2 later)
bodies_told in_glyph in_subr (Glyph g words closing ∷ items) [] fault are e = absurd are
bodies_told in_glyph in_subr (Glyph g words closing ∷ items) (x ∷ es) fault are e =
    entry_told in_glyph in_subr x es fault (places.Glyph g) words (bodies_check items) are.0 are.1 e (words_fault (places.Glyph g) words (commands words) refl)
    (λ later. bodies_told in_glyph in_subr items es fault are.2 later)

-- ---- a run

-- a fault of the run of this glyph is told at the glyph, or in a Subr
abbrev IsToldOf : Code → List ℕ → List FoundFault → Type 0
IsToldOf code p found = IsTold code (places.Glyph p) found ⊎ IsMet code p found

met_left : (code : Code) (p : List ℕ) (xs ys : List FoundFault) → IsMet code p xs → IsMet code p (xs ++ ys)
met_left code p [] ys h = absurd h
met_left code p (x ∷ xs) ys (inl h) = inl h
met_left code p (x ∷ xs) ys (inr h) = inr (met_left code p xs ys h)

met_right : (code : Code) (p : List ℕ) (xs ys : List FoundFault) → IsMet code p ys → IsMet code p (xs ++ ys)
met_right code p [] ys h = h
met_right code p (x ∷ xs) ys h = inr (met_right code p xs ys h)

of_left : (code : Code) (p : List ℕ) (xs ys : List FoundFault) → IsToldOf code p xs → IsToldOf code p (xs ++ ys)
of_left code p xs ys (inl h) = inl (told_left code (places.Glyph p) xs ys h)
of_left code p xs ys (inr h) = inr (met_left code p xs ys h)

of_right : (code : Code) (p : List ℕ) (xs ys : List FoundFault) → IsToldOf code p ys → IsToldOf code p (xs ++ ys)
of_right code p xs ys (inl h) = inl (told_right code (places.Glyph p) xs ys h)
of_right code p xs ys (inr h) = inr (met_right code p xs ys h)

-- what is told of one of the entries is told of all
of_entries : (code : Code) (p : List ℕ) (f : Entry → List FoundFault) (P : Entry → Type 0) (es : List Entry) → Has P es → ((e : Entry) → P e → IsToldOf code p (f e))
    → IsToldOf code p (flat_map f es)
of_entries code p f P [] h told = absurd h
of_entries code p f P (e ∷ es) (inl here) told = of_left code p (f e) (flat_map f es) (told e here)
of_entries code p f P (e ∷ es) (inr later) told = of_right code p (f e) (flat_map f es) (of_entries code p f P es later told)

pub at_code : (e : Entry) (w : Option PlacedWord) (f : RunFault) → (at_place e w f).code ≡ f.code
at_code e None f = refl
at_code e (Some w) f = refl

pub at_own_place : (e : Entry) (w : Option PlacedWord) (f : RunFault) → (at_place e w f).place ≡ e.place
at_own_place e None f = refl
at_own_place e (Some w) f = refl

at_chains : (e : Entry) (w : Option PlacedWord) (f : RunFault) → (at_place e w f).chains ≡ f.chains
at_chains e None f = refl
at_chains e (Some w) f = refl

pub met_told : (code : Code) (p : List ℕ) (e : Entry) (ws : List PlacedWord) (fs : List RunFault) → HasMet code p fs → IsMet code p (map (in_entry e ws) fs)
met_told code p e ws [] h = absurd h
met_told code p e ws (f ∷ fs) (inl h) =
    inl (at_code e (slice_get ws f.word) f ∙ h.0, subst (HasChain p) (sym (at_chains e (slice_get ws f.word) f)) h.1)
met_told code p e ws (f ∷ fs) (inr h) = inr (met_told code p e ws fs h)

-- the faults of an entry, where these runs fail
abbrev pub faults_with : List GlyphFailure → Entry → List FoundFault
faults_with failed = entry_faults (own_fault failed) (faults_at failed)

-- where the body has none, they are those that runs met
pub met_listed : (failed : List GlyphFailure) (x : Entry) (place : Place) → body_faults x ≡ [] → x.place ≡ place
    → faults_with failed x ≡ met_faults x (met_in (own_fault failed) (faults_at failed) place (length (placed_words x)))
met_listed failed x place sound stands =
    ap (λ fs. or_else fs (run_faults (own_fault failed) (faults_at failed) x)) sound
    ∙ ap (λ q. met_faults x (met_in (own_fault failed) (faults_at failed) q (length (placed_words x)))) stands

-- where no body has a fault, that of a glyph's own run is told
run_told : (items : List Item) (es : List Entry) (p : List ℕ) (code : Code) → AreOf items es → bodies_check items ≡ Ok tt → list_any (bytes_eq p) (glyph_names items) ≡ true
    → own (font_to_run items) p ≡ Some (Err code)
    → IsToldOf code p (flat_map (faults_with (failed_runs (failures_in items) es)) es)
run_told items es p code are checked there fails =
    by (failures_in items p) refl (sym (runs_told items checked p) ∙ ap first_fault_of_run fails)
  where
    found : (f : Failure) → failures_in items p ≡ Some f → f.code ≡ code → (o : Option ℕ) → last_entered f.calls ≡ o
        → IsToldOf code p (flat_map (faults_with (failed_runs (failures_in items) es)) es)
    found f e same None last =
        let failed = failed_runs (failures_in items) es in
        let mine = faults_with failed in
        of_entries code p mine (λ x. (x.place ≡ places.Glyph p) × (body_faults x ≡ [])) es
        (both (λ x. x.place ≡ places.Glyph p) (λ x. body_faults x ≡ []) es (glyph_there items es p are there) (bodies_fine items es are checked)) (λ x. λ h.
        let listed : mine x ≡ in_entry x (placed_words x) (run_fault [] f) ∷ [] =
        met_listed failed x (places.Glyph p) h.1 h.0 ∙ ap (λ o. met_faults x (option_to_list o)) (own_met (failures_in items) p f es e last (glyph_there items es p are there)) in
        let w = slice_get (placed_words x) f.word in
        inl (subst (IsTold code (places.Glyph p)) (sym listed) (inl (at_code x w (run_fault [] f) ∙ same, at_own_place x w (run_fault [] f) ∙ h.0))))
    found f e same (Some n) last =
        let failed = failed_runs (failures_in items) es in
        let mine = faults_with failed in
        let lead = leads items p f e in
        let body = last_there (font_to_run items) lead.0 f.calls f.word n lead.1 last in
        of_entries code p mine (λ x. IsSubr n body.0 x × (body_faults x ≡ [])) es
        (both (IsSubr n body.0) (λ x. body_faults x ≡ []) es (subr_there items es n body.0 are body.1) (bodies_fine items es are checked)) (λ x. λ h.
        let met = flat_map (faults_at failed n) (range_with_len 0 (length (placed_words x))) in
        let listed : mine x ≡ met_faults x met = met_listed failed x (places.Subr n) h.1 h.0.0 in
        let inside : f.word < length (placed_words x) = omega (arith, body.2, h.0.1) in
        let run = run_there (failures_in items) p f e es (glyph_there items es p are there) in
        let there = met_at_word f.code p (faults_at failed n) (length (placed_words x)) f.word inside (met_there (run_of p f) n failed run last) in
        inr (subst (IsMet code p) (sym listed) (subst (λ c. IsMet c p (met_faults x met)) same (met_told f.code p x (placed_words x) met there))))

    by : (o : Option Failure) → failures_in items p ≡ o → option_map (λ (f : Failure). f.code) (failures_in items p) ≡ Some code
        → IsToldOf code p (flat_map (faults_with (failed_runs (failures_in items) es)) es)
    by None e told = let none : None ≡ Some code = sym (ap (option_map (λ (f : Failure). f.code)) e) ∙ told in absurd (cc)
    by (Some f) e told =
        let some : Some f.code ≡ Some code = sym (ap (option_map (λ (f : Failure). f.code)) e) ∙ told in
        let same : f.code ≡ code = cc in
        found f e same (last_entered f.calls) refl

-- ---- a join

pub join_told : (run : OwnRuns) (items : List Item) (es : List Entry) (g : List ℕ) (code : Code) → AreOf items es → list_any (bytes_eq g) (glyph_names items) ≡ true
    → sound_within run 4 g ≡ true → glyph_metrics_at run g ≡ Err code → IsTold code (places.Glyph g) (flat_map (join_faults run) es)
join_told run [] es g code are there sound fails = absurd (cc)
join_told run (Plain l ∷ items) es g code are there sound fails = join_told run items es g code are there sound fails
join_told run (Section before n after ∷ items) es g code are there sound fails = join_told run items es g code are there sound fails
join_told run (Subr n words closing ∷ items) [] g code are there sound fails = absurd are
join_told run (Subr n words closing ∷ items) (x ∷ es) g code are there sound fails =
    told_right code (places.Glyph g) (join_faults run x) (flat_map (join_faults run) es) (join_told run items es g code are.2 there sound fails)
join_told run (Glyph name words closing ∷ items) [] g code are there sound fails = absurd are
join_told run (Glyph name words closing ∷ items) (x ∷ es) g code are there sound fails =
    elim (cases_Bool (bytes_eq g name)) [
      | inl same ↦
          let equal = bytes_same g name same in
          let judged : cond (sound_within run 4 g) (refused_code (glyph_metrics_at run g)) None ≡ Some code =
          ap (λ b. cond b (refused_code (glyph_metrics_at run g)) None) sound ∙ ap refused_code fails in
          let own : join_fault run x.place ≡ Some code = ap (join_fault run) are.0 ∙ ap (λ n. join_fault run (places.Glyph n)) (sym equal) ∙ judged in
          let listed : join_faults run x ≡ at_entry x code ∷ [] = ap (λ f. option_to_list (option_map (at_entry x) f)) own in
          told_left code (places.Glyph g) (join_faults run x) (flat_map (join_faults run) es)
          (subst (IsTold code (places.Glyph g)) (sym listed) (inl (refl, are.0 ∙ ap (λ n. places.Glyph n) (sym equal))))
      | inr other ↦
          told_right code (places.Glyph g) (join_faults run x) (flat_map (join_faults run) es) (join_told run items es g code are.2 (rw other at there) sound fails)
    ]

-- a glyph that isn't sound stands on one whose own run has a fault
abbrev pub Unsound : OwnRuns → ℕ → List ℕ → Type 0
Unsound run depth g = (p : List ℕ) × (code : Code) × StandsOn run depth g p × (run p ≡ Some (Err code))

pub unsound : (run : OwnRuns) (depth : ℕ) (g : List ℕ) → sound_within run depth g ≡ false → Unsound run depth g
unsound run zero g h = by (run g) refl where
  parts : (c : Option Composite) → sound_parts (λ part. true) c ≡ true
  parts None = refl
  parts (Some c) = refl

  by : (r : Option (Result Drawing Code)) → run g ≡ r → Unsound run zero g
  by None e = let none : true ≡ false = sym (ap (sound_run (λ part. true)) e) ∙ h in absurd (cc)
  by (Some (Err code)) e = (g, code, refl, e)
  by (Some (Ok d)) e = let none : true ≡ false = sym (ap (sound_run (λ part. true)) e ∙ parts d.composite) ∙ h in absurd (cc)
unsound run (suc depth) g h = by (λ part k. unsound run depth part k) (run g) refl where
  one : ((part : List ℕ) → sound_within run depth part ≡ false → Unsound run depth part) → (d : Drawing) (c : Option Composite) → run g ≡ Some (Ok d) → d.composite ≡ c → sound_parts (sound_within run depth) c ≡ false → Unsound run (suc depth) g
  one below d None e f k = absurd (cc)
  one below d (Some c) e f k =
      elim (cases_Bool (sound_within run depth c.base)) [
        | inl base ↦
            let accent : sound_within run depth c.accent ≡ false = rw base at k in
            let w = below c.accent accent in
            (w.0, w.1, inr (d, c, e, f, inr w.2), w.3)
        | inr base ↦ let w = below c.base base in (w.0, w.1, inr (d, c, e, f, inl w.2), w.3)
      ]

  by : ((part : List ℕ) → sound_within run depth part ≡ false → Unsound run depth part) → (r : Option (Result Drawing Code)) → run g ≡ r → Unsound run (suc depth) g
  by below None e = let none : true ≡ false = sym (ap (sound_run (sound_within run depth)) e) ∙ h in absurd (cc)
  by below (Some (Err code)) e = (g, code, inl refl, e)
  by below (Some (Ok d)) e = one below d d.composite e refl (sym (ap (sound_run (sound_within run depth)) e) ∙ h)

-- ---- the first fault of glyphs

pub or_second : (a b : Bool) → b ≡ true → (a || b) ≡ true
or_second true b h = refl
or_second false b h = h

pub or_first : (a b : Bool) → a ≡ true → (a || b) ≡ true
or_first true b h = refl
or_first false b h = absurd (cc)

abbrev FirstOf : OwnRuns → List (List ℕ) → Fault → Type 0
FirstOf run names fault =
    (g : List ℕ) × (code : Code) × (list_any (bytes_eq g) names ≡ true) × (fault_at (places.Glyph g) code ≡ fault) × (glyph_metrics_at run g ≡ Err code)

none_first : (run : OwnRuns) (fault : Fault) → glyph_metrics_among run [] ≡ Err fault → FirstOf run [] fault
unfolding glyph_metrics_among
none_first run fault e = absurd (cc)

first_of : (run : OwnRuns) (names : List (List ℕ)) (fault : Fault) → glyph_metrics_among run names ≡ Err fault → FirstOf run names fault
first_of run [] fault e = none_first run fault e
first_of run (name ∷ names) fault e = by (λ h. first_of run names fault h) (glyph_metrics_at run name) refl where
  later : (glyph_metrics_among run names ≡ Err fault → FirstOf run names fault) → (s : GlyphMetrics) (r : Result (List GlyphMetrics) Fault) → glyph_metrics_among run names ≡ r → put_after (s ∷ []) r ≡ Err fault → FirstOf run (name ∷ names) fault
  later below s (Ok ms) f k = absurd (cc)
  later below s (Err other) f k =
      let same : other ≡ fault = cc in
      let w = below (f ∙ ap Err same) in
      (w.0, w.1, or_second (bytes_eq w.0 name) (list_any (bytes_eq w.0) names) w.2, w.3, w.4)

  by : (glyph_metrics_among run names ≡ Err fault → FirstOf run names fault) → (r : Result GlyphMetrics Code) → glyph_metrics_at run name ≡ r → FirstOf run (name ∷ names) fault
  by below (Ok s) h =
      later below s (glyph_metrics_among run names) refl (one-reported run [] name names s (ap (reported_at (places.Glyph name)) h) ∙ ap (put_after []) e)
  by below (Err code) h =
      let refused : put_after [] (glyph_metrics_among run (name ∷ names)) ≡ Err (fault_at (places.Glyph name) code) =
      one-refused run [] name names (refusals.Fault (fault_at (places.Glyph name) code)) (ap (reported_at (places.Glyph name)) h) in
      let both : ◌≡◌ {A = Result (List GlyphMetrics) Fault} (Err (fault_at (places.Glyph name) code)) (Err fault) = sym refused ∙ ap (put_after []) e in
      let same : fault_at (places.Glyph name) code ≡ fault = cc in
      (name, code, or_first (bytes_eq name name) (list_any (bytes_eq name) names) (bytes_self name), same, h)

measured_first : (items : List Item) (fault : Fault) → bodies_check items ≡ Ok tt → measured items ≡ Err fault → FirstOf (own (font_to_run items)) (glyph_names items) fault
measured_first items fault bodies e = by (glyph_metrics_among (own (font_to_run items)) (glyph_names items)) refl where
  by : (r : Result (List GlyphMetrics) Fault) → glyph_metrics_among (own (font_to_run items)) (glyph_names items) ≡ r → FirstOf (own (font_to_run items)) (glyph_names items) fault
  by (Ok ms) h =
      let fine = all-reported items (own (font_to_run items)) ms (united (map (λ (m : GlyphMetrics). m.bbox) ms)) (runs-own items bodies) h refl in
      let none : ◌≡◌ {A = Result MeasuredFont Fault} (Ok (record { metrics = ms; font_box = united (map (λ (m : GlyphMetrics). m.bbox) ms) })) (Err fault) = sym fine ∙ e in
      absurd (cc)
  by (Err other) h =
      let refused : measured items ≡ Err other = all-refused items (own (font_to_run items)) (refusals.Fault other) (runs-own items bodies) h in
      let both : ◌≡◌ {A = Result MeasuredFont Fault} (Err other) (Err fault) = sym refused ∙ e in
      let same : other ≡ fault = cc in
      first_of (own (font_to_run items)) (glyph_names items) fault (h ∙ ap Err same)

-- ---- a source

-- what has a run is a glyph of the source
pub is_glyph_of : (items : List Item) (p : List ℕ) (code : Code) → own (font_to_run items) p ≡ Some (Err code) → list_any (bytes_eq p) (glyph_names items) ≡ true
is_glyph_of items p code e =
    elim (cases_Bool (list_any (bytes_eq p) (glyph_names items))) [
      | inl there ↦ there
      | inr not_there ↦ let none : Some code ≡ None = sym (ap first_fault_of_run e) ∙ absent items p not_there in absurd (cc)
    ]

glyph_answered : (s : SourceParts) (es : List Entry) (fault : Fault) → AreOf s.items es → bodies_check s.items ≡ Ok tt → measured s.items ≡ Err fault
    → IsAccountedFor (own (font_to_run s.items)) (faults_alone s es) fault
glyph_answered s es fault are bodies e =
    let run = own (font_to_run s.items) in
    let failed = failed_runs (failures_in s.items) es in
    let mine = flat_map (entry_faults (own_fault failed) (faults_at failed)) es in
    let file = file_faults (bodies_check s.items) (file_check s) in
    let joins = flat_map (join_faults run) es in
    let w = measured_first s.items fault bodies e in
    elim (cases_Bool (sound_within run 4 w.0)) [
      | inl sound ↦
          let told = join_told run s.items es w.0 w.1 are w.2 sound w.4 in
          let all = told_right w.1 (places.Glyph w.0) mine (file ++ joins) (told_right w.1 (places.Glyph w.0) file joins told) in
          inl (subst (λ (f : Fault). IsTold f.code f.place (faults_alone s es)) w.3 all)
      | inr not_sound ↦
          let u = unsound run 4 w.0 not_sound in
          let told = run_told s.items es u.0 u.1 are bodies (is_glyph_of s.items u.0 u.1 u.3) u.3 in
          inr (w.0, u.0, u.1, sym (ap (λ (f : Fault). f.place) w.3), u.2, of_left u.1 u.0 mine (file ++ joins) told)
    ]

-- the fault that check reports is told, or it is the first that measuring finds
told_or_measured : (s : SourceParts) (es : List Entry) (fault : Fault) → AreOf s.items es → source_check s ≡ Err fault
    → IsTold fault.code fault.place (faults_alone s es) ⊎ ((bodies_check s.items ≡ Ok tt) × (measured s.items ≡ Err fault))
unfolding measured_source
told_or_measured s es fault are e = bodies (bodies_check s.items) refl where
  file : (r : Result (Unit {0}) Fault) → bodies_check s.items ≡ Ok tt → file_check s ≡ r
      → IsTold fault.code fault.place (faults_alone s es) ⊎ ((bodies_check s.items ≡ Ok tt) × (measured s.items ≡ Err fault))
  file (Ok u) sound h = glyphs (measured s.items) refl
    where
      glyphs : (m : Result MeasuredFont Fault) → measured s.items ≡ m → IsTold fault.code fault.place (faults_alone s es) ⊎ ((bodies_check s.items ≡ Ok tt) × (measured s.items ≡ Err fault))
      glyphs (Ok font) k = let none : ◌≡◌ {A = Result (Unit {0}) Fault} (Ok tt) (Err fault) = rw (h, k) at e in absurd (cc)
      glyphs (Err other) k =
          let first : ◌≡◌ {A = Result (Unit {0}) Fault} (Err other) (Err fault) = rw (h, k) at e in
          let same : other ≡ fault = cc in
          inr (sound, k ∙ ap Err same)
  file (Err other) sound h =
      let first : ◌≡◌ {A = Result (Unit {0}) Fault} (Err other) (Err fault) = rw h at e in
      let same : other ≡ fault = cc in
      let run = own (font_to_run s.items) in
      let one : IsTold fault.code fault.place (file_faults (Ok tt) (Err fault)) = inl (refl, refl) in
      let told = subst (λ r. IsTold fault.code fault.place (file_faults r (file_check s))) (sym sound) (subst (λ r. IsTold fault.code fault.place (file_faults (Ok tt) r)) (sym (h ∙ ap Err same)) one) in
      let failed = failed_runs (failures_in s.items) es in
      inl (told_right fault.code fault.place (flat_map (entry_faults (own_fault failed) (faults_at failed)) es) (file_faults (bodies_check s.items) (file_check s) ++ flat_map (join_faults run) es)
      (told_left fault.code fault.place (file_faults (bodies_check s.items) (file_check s)) (flat_map (join_faults run) es) told))

  bodies : (r : Result (Unit {0}) Fault) → bodies_check s.items ≡ r → IsTold fault.code fault.place (faults_alone s es) ⊎ ((bodies_check s.items ≡ Ok tt) × (measured s.items ≡ Err fault))
  bodies (Ok u) h = file (file_check s) h refl
  bodies (Err other) h =
      let early = body_fault_reported s other h in
      let first : ◌≡◌ {A = Result (Unit {0}) Fault} (Err other) (Err fault) = rw early at e in
      let same : other ≡ fault = cc in
      let run = own (font_to_run s.items) in
      let failed = failed_runs (failures_in s.items) es in
      inl (told_left fault.code fault.place (flat_map (entry_faults (own_fault failed) (faults_at failed)) es) (file_faults (bodies_check s.items) (file_check s) ++ flat_map (join_faults run) es)
      (bodies_told (own_fault failed) (faults_at failed) s.items es fault are (h ∙ ap Err same)))

source_answered : (s : SourceParts) (es : List Entry) (fault : Fault) → AreOf s.items es → source_check s ≡ Err fault
    → IsAccountedFor (own (font_to_run s.items)) (faults_alone s es) fault
source_answered s es fault are e = elim (told_or_measured s es fault are e) [
  | inl told ↦ inl told
  | inr first ↦ glyph_answered s es fault are first.0 first.1
]

-- so it is with the composites
told_with_composites : (s : SourceParts) (es : List Entry) (fault : Fault) → IsAccountedFor (own (font_to_run s.items)) (faults_alone s es) fault
    → IsAccountedFor (own (font_to_run s.items)) (faults_among s es) fault
told_with_composites s es fault h =
    let run = own (font_to_run s.items) in
    answered_still run (composites_of run (glyph_names s.items)) [] (faults_alone s es) fault h

-- what check reports of some bytes is told, or is a glyph's that stands on one of which a fault is told
pub answered : (bytes : List ℕ) (fault : Fault) → checked bytes ≡ Err fault → IsAccountedFor (runs_read (reads bytes)) (source_faults bytes) fault
answered bytes fault e = by (reads bytes) refl where
  reading : (f : Fault) (place : Place) → f.place ≡ place → IsTold f.code place (reading_fault (lines bytes) (fault_at place f.code) ∷ [])
  reading f places.Nowhere h = inl (refl, refl)
  reading f (places.Line n) h = inl (refl, refl)
  reading f (places.Subr n) h = inl (refl, refl)
  reading f (places.Glyph g) h = inl (refl, refl)

  by : (r : Result SourceParts Fault) → reads bytes ≡ r → IsAccountedFor (runs_read (reads bytes)) (source_faults bytes) fault
  by (Ok s) h =
      let judged : source_check s ≡ Err fault = ap (λ r. r >>= source_check) (sym h) ∙ e in
      subst (λ r. IsAccountedFor (runs_read r) (faults_read (lines bytes) r) fault) (sym h)
      (told_with_composites s (entries_in (parts_of (lines bytes)) s) fault (source_answered s (entries_in (parts_of (lines bytes)) s) fault (read_entries bytes s h) judged))
  by (Err other) h =
      let first : ◌≡◌ {A = Result (Unit {0}) Fault} (Err other) (Err fault) = ap (λ r. r >>= source_check) (sym h) ∙ e in
      let same : other ≡ fault = cc in
      subst (λ r. IsAccountedFor (runs_read r) (faults_read (lines bytes) r) fault) (sym (h ∙ ap Err same))
      (inl (reading fault fault.place refl))

-- ---- the glyph of the fault that check reports is named

glyph_named : (s : SourceParts) (es : List Entry) (fault : Fault) (g : List ℕ) → AreOf s.items es → bodies_check s.items ≡ Ok tt → measured s.items ≡ Err fault
    → fault.place ≡ places.Glyph g → IsNamed g (faults_among s es)
glyph_named s es fault g are bodies e at =
    let run = own (font_to_run s.items) in
    let failed = failed_runs (failures_in s.items) es in
    let mine = flat_map (entry_faults (own_fault failed) (faults_at failed)) es in
    let file = file_faults (bodies_check s.items) (file_check s) in
    let joins = flat_map (join_faults run) es in
    let w = measured_first s.items fault bodies e in
    let places_same : places.Glyph w.0 ≡ places.Glyph g = ap (λ (f : Fault). f.place) w.3 ∙ at in
    let glyph : w.0 ≡ g = cc in
    subst (λ x. IsNamed x (faults_among s es)) glyph
    (elim (cases_Bool (sound_within run 4 w.0)) [
      | inl sound ↦
          let told = join_told run s.items es w.0 w.1 are w.2 sound w.4 in
          let all = told_right w.1 (places.Glyph w.0) mine (file ++ joins) (told_right w.1 (places.Glyph w.0) file joins told) in
          named_told run (glyph_names s.items) (faults_alone s es) w.1 w.0 all
      | inr not_sound ↦
          let u = unsound run 4 w.0 not_sound in
          let told = run_told s.items es u.0 u.1 are bodies (is_glyph_of s.items u.0 u.1 u.3) u.3 in
          named_on run (glyph_names s.items) (faults_alone s es) w.0 u.0 u.1 w.2 u.2 u.3 (naming u.1 u.0 (faults_alone s es) (of_left u.1 u.0 mine (file ++ joins) told))
    ])

source_named : (s : SourceParts) (es : List Entry) (fault : Fault) (g : List ℕ) → AreOf s.items es → source_check s ≡ Err fault → fault.place ≡ places.Glyph g → IsNamed g (faults_among s es)
source_named s es fault g are e at = elim (told_or_measured s es fault are e) [
  | inl told ↦
      named_told (own (font_to_run s.items)) (glyph_names s.items) (faults_alone s es) fault.code g (subst (λ place. IsTold fault.code place (faults_alone s es)) at told)
  | inr first ↦ glyph_named s es fault g are first.0 first.1 at
]

-- where check reports a fault at a glyph, a fault names it or has it among its composites
pub glyph_is_named : (bytes : List ℕ) (fault : Fault) (g : List ℕ) → checked bytes ≡ Err fault → fault.place ≡ places.Glyph g → IsNamed g (source_faults bytes)
glyph_is_named bytes fault g e at = by (reads bytes) refl where
  reading : (f : Fault) (place : Place) → place ≡ places.Glyph g → IsNamed g (placed_reading (lines bytes) f.code place ∷ [])
  reading f places.Nowhere h = absurd (cc)
  reading f (places.Line n) h = absurd (cc)
  reading f (places.Subr n) h = absurd (cc)
  reading f (places.Glyph x) h =
      let same : x ≡ g = cc in
      let here : bytes_eq g x ≡ true = ap (bytes_eq g) same ∙ bytes_self g in
      inl (ap (λ b. b || false) here)

  by : (r : Result SourceParts Fault) → reads bytes ≡ r → IsNamed g (source_faults bytes)
  by (Ok s) h =
      let judged : source_check s ≡ Err fault = ap (λ r. r >>= source_check) (sym h) ∙ e in
      subst (λ r. IsNamed g (faults_read (lines bytes) r)) (sym h)
      (source_named s (entries_in (parts_of (lines bytes)) s) fault g (read_entries bytes s h) judged at)
  by (Err other) h =
      let first : ◌≡◌ {A = Result (Unit {0}) Fault} (Err other) (Err fault) = ap (λ r. r >>= source_check) (sym h) ∙ e in
      let same : other ≡ fault = cc in
      subst (λ r. IsNamed g (faults_read (lines bytes) r)) (sym (h ∙ ap Err same)) (reading fault fault.place at)
