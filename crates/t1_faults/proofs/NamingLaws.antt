-- Each glyph that fails is named by a fault, or calls a Subr of which one is told.
use Rattle.std.proofs.Common.{◌≡◌, ◌∙◌, ℕ, Bool, true, false, cond, ◌&&◌, ◌||◌, ◌<◌, ◌⊎◌, List, [], ◌∷◌, ◌++◌, length, map, Option, None, Some, Result, Ok, Err, refl, sym, ap, subst, inl, inr, arith}
use Rattle.std.specs.Prelude.{is_none, nat_eq, slice_get, flat_map, option_map}
use Rattle.std.specs.List.{list_any, range_with_len}
use Rattle.std.specs.Option.{option_and_then, option_or, option_to_list}
use Rattle.std.specs.Result.{result_ok}
use Rattle.std.specs.Str.{bytes_eq}
use Rattle.std.proofs.lemmas.Bool.{cases_Bool}
use Rattle.std.proofs.lemmas.List.Folds.{list_any-append}
use Rattle.t1_frac.specs.declared.fault.Code.{Code}
use Rattle.t1_frac.specs.declared.fault.Place.{Place}
use Rattle.t1_frac.specs.declared.fault.Place.TheVariants as places
use Rattle.t1_text.specs.Lines.{lines}
use Rattle.t1_parts.specs.declared.item.Item.{Item}
use Rattle.t1_parts.specs.declared.item.Item.TheVariants.{Plain, Section, Subr, Glyph}
use Rattle.t1_parts.specs.Parts.{parts_of}
use Rattle.t1_parts.specs.Reading.{reads}
use Rattle.t1_parts.specs.SourceParts.{SourceParts}
use Rattle.t1_code.specs.declared.command.Command.{Command}
use Rattle.t1_code.specs.Words.{commands}
use Rattle.t1_run.specs.Run.{own}
use Rattle.t1_font.specs.Assembly.{file_check}
use Rattle.t1_font.specs.Bodies.{bodies_check, subr_among}
use Rattle.t1_font.specs.Glyphs.{glyph_names}
use Rattle.t1_font.specs.ToRun.{font_to_run}
use Rattle.t1_font.proofs.Lookups.{numbers_tell}
use Rattle.t1_chain.specs.Failing.{Failure}
use Rattle.t1_faults.specs.declared.found.FoundFault.{FoundFault}
use Rattle.t1_faults.specs.Composites.{composites_of, names_glyph}
use Rattle.t1_faults.specs.Entries.{Entry, placed_words}
use Rattle.t1_faults.specs.Failing.{failures_in, glyph_failure, is_faulty_subr, is_some_and, missing_subr, told_failure}
use Rattle.t1_faults.specs.Found.{body_faults, in_entry, met_faults}
use Rattle.t1_faults.specs.Judging.{entries_in, faults_alone, faults_among, faults_read, file_faults, first_fault_of_run, join_faults, run_faults, sound_within, source_faults}
use Rattle.t1_faults.specs.Met.{failed_runs, faults_at, last_entered, own_fault, run_fault}
use Rattle.t1_faults.specs.Telling.{IsMet, IsTold, MissesSubr, NamesFailing}
use Rattle.t1_faults.proofs.CheckLaws.{leads}
use Rattle.t1_faults.proofs.CompositeLaws.{told_still}
use Rattle.t1_faults.proofs.EntryLaws.{read_entries}
use Rattle.t1_faults.proofs.FailureLaws.{run_fails}
use Rattle.t1_faults.proofs.MetLaws.{Has, IsSubr, as_many, glyph_there, last_there, met_at_word, met_there, own_met, run_of, run_there}
use Rattle.t1_faults.proofs.SoundLaws.{body_fine, long_as}
use Rattle.t1_faults.proofs.StandingOnLaws.{named_on, named_told, naming}
use Rattle.t1_faults.proofs.TakenLaws.{AreOf}
use Rattle.t1_faults.proofs.TellingLaws.{at_code, at_own_place, body_told, faults_with, is_glyph_of, join_told, met_listed, met_told, or_first, or_second, told_first, told_left, told_right, unsound}

-- ---- a body has no fault, or one is told in its entry

pub judged : (e : Entry) → (body_faults e ≡ []) ⊎ ((code : Code) × IsTold code e.place (body_faults e))
judged e = by (commands (map (λ w. w.word) (placed_words e))) refl where
  by : (r : Result (List Command) Code) → commands (map (λ w. w.word) (placed_words e)) ≡ r → (body_faults e ≡ []) ⊎ ((code : Code) × IsTold code e.place (body_faults e))
  by (Ok cs) h = inl (body_fine e (map (λ w. w.word) (placed_words e)) cs refl h)
  by (Err code) h = inr (code, body_told e (map (λ w. w.word) (placed_words e)) code refl h)

-- a Subr that is run has an entry without a fault in its words
fine_subr_there : (items : List Item) (es : List Entry) (n : ℕ) (body : List Command) → AreOf items es → subr_among items n ≡ Some body → Has (λ e. IsSubr n body e × (body_faults e ≡ [])) es
fine_subr_there [] es n body are there = absurd (cc)
fine_subr_there (Plain l ∷ items) es n body are there = fine_subr_there items es n body are there
fine_subr_there (Section before count after ∷ items) es n body are there = fine_subr_there items es n body are there
fine_subr_there (Subr number words closing ∷ items) [] n body are there = absurd are
fine_subr_there (Subr number words closing ∷ items) (e ∷ es) n body are there =
    by (λ h. fine_subr_there items es n body are.2 h) (nat_eq n number) (commands words) refl refl there
  where
    by : (subr_among items n ≡ Some body → Has (λ x. IsSubr n body x × (body_faults x ≡ [])) es) → (b : Bool) (r : Result (List Command) Code) → nat_eq n number ≡ b → commands words ≡ r
        → option_or (cond b (result_ok r) None) (subr_among items n) ≡ Some body → Has (λ x. IsSubr n body x × (body_faults x ≡ [])) (e ∷ es)
    by below true (Ok cs) same fine h =
        let is : cs ≡ body = cc in
        inl ((are.0 ∙ ap (λ k. places.Subr k) (sym (numbers_tell.same n number same)), sym (long_as (placed_words e)) ∙ ap length are.1 ∙ as_many words cs fine ∙ ap length is), body_fine e words cs are.1 fine)
    by below true (Err code) same refused h = inr (below h)
    by below false r other fine h = inr (below h)
fine_subr_there (Glyph name words closing ∷ items) [] n body are there = absurd are
fine_subr_there (Glyph name words closing ∷ items) (e ∷ es) n body are there = inr (fine_subr_there items es n body are.2 there)

-- ---- a glyph whose run fails, and that is told, is named

any_left : (test : FoundFault → Bool) (xs ys : List FoundFault) → list_any test xs ≡ true → list_any test (xs ++ ys) ≡ true
any_left test xs ys h = list_any-append test xs ys ∙ or_first (list_any test xs) (list_any test ys) h

any_right : (test : FoundFault → Bool) (xs ys : List FoundFault) → list_any test ys ≡ true → list_any test (xs ++ ys) ≡ true
any_right test xs ys h = list_any-append test xs ys ∙ or_second (list_any test xs) (list_any test ys) h

-- what one of the entries names, all name
named_among : (p : List ℕ) (f : Entry → List FoundFault) (P : Entry → Type 0) (es : List Entry) → Has P es → ((e : Entry) → P e → list_any (names_glyph p) (f e) ≡ true)
    → list_any (names_glyph p) (flat_map f es) ≡ true
named_among p f P [] h named = absurd h
named_among p f P (e ∷ es) (inl here) named = any_left (names_glyph p) (f e) (flat_map f es) (named e here)
named_among p f P (e ∷ es) (inr later) named = any_right (names_glyph p) (f e) (flat_map f es) (named_among p f P es later named)

own_named : (items : List Item) (es : List Entry) (p : List ℕ) (f : Failure) → AreOf items es → list_any (bytes_eq p) (glyph_names items) ≡ true → failures_in items p ≡ Some f → last_entered f.calls ≡ None
    → list_any (names_glyph p) (flat_map (faults_with (failed_runs (failures_in items) es)) es) ≡ true
own_named items es p f are there e last =
    let failed = failed_runs (failures_in items) es in
    let at = glyph_there items es p are there in
    named_among p (faults_with failed) (λ x. x.place ≡ places.Glyph p) es at (λ x. λ h.
    elim (judged x) [
      | inl sound ↦
          let listed : faults_with failed x ≡ in_entry x (placed_words x) (run_fault [] f) ∷ [] =
          met_listed failed x (places.Glyph p) sound h ∙ ap (λ o. met_faults x (option_to_list o)) (own_met (failures_in items) p f es e last at) in
          let w = slice_get (placed_words x) f.word in
          naming f.code p (faults_with failed x)
          (inl (subst (IsTold f.code (places.Glyph p)) (sym listed) (inl (at_code x w (run_fault [] f), at_own_place x w (run_fault [] f) ∙ h))))
      | inr body ↦
          naming body.0 p (faults_with failed x)
          (inl (told_first body.0 (places.Glyph p) (body_faults x) (run_faults (own_fault failed) (faults_at failed) x) (subst (λ place. IsTold body.0 place (body_faults x)) h body.1)))
    ])

in_subr_named : (items : List Item) (es : List Entry) (p : List ℕ) (f : Failure) (n : ℕ) → AreOf items es → list_any (bytes_eq p) (glyph_names items) ≡ true → failures_in items p ≡ Some f
    → last_entered f.calls ≡ Some n → list_any (names_glyph p) (flat_map (faults_with (failed_runs (failures_in items) es)) es) ≡ true
in_subr_named items es p f n are there e last =
    let failed = failed_runs (failures_in items) es in
    let lead = leads items p f e in
    let body = last_there (font_to_run items) lead.0 f.calls f.word n lead.1 last in
    named_among p (faults_with failed) (λ x. IsSubr n body.0 x × (body_faults x ≡ [])) es (fine_subr_there items es n body.0 are body.1) (λ x. λ h.
    let met = flat_map (faults_at failed n) (range_with_len 0 (length (placed_words x))) in
    let listed : faults_with failed x ≡ met_faults x met = met_listed failed x (places.Subr n) h.1 h.0.0 in
    let inside : f.word < length (placed_words x) = omega (arith, body.2, h.0.1) in
    let run = run_there (failures_in items) p f e es (glyph_there items es p are there) in
    let there_met = met_at_word f.code p (faults_at failed n) (length (placed_words x)) f.word inside (met_there (run_of p f) n failed run last) in
    naming f.code p (faults_with failed x) (inr (subst (IsMet f.code p) (sym listed) (met_told f.code p x (placed_words x) met there_met))))

told_named : (items : List Item) (es : List Entry) (p : List ℕ) (f : Failure) → AreOf items es → list_any (bytes_eq p) (glyph_names items) ≡ true → failures_in items p ≡ Some f
    → list_any (names_glyph p) (flat_map (faults_with (failed_runs (failures_in items) es)) es) ≡ true
told_named items es p f are there e = by (last_entered f.calls) refl where
  by : (o : Option ℕ) → last_entered f.calls ≡ o → list_any (names_glyph p) (flat_map (faults_with (failed_runs (failures_in items) es)) es) ≡ true
  by None last = own_named items es p f are there e last
  by (Some n) last = in_subr_named items es p f n are there e last

-- ---- a run whose failure isn't told misses a Subr of which a fault is told

told_or_misses : (faulty : ℕ → Bool) (f : Failure) → (told_failure faulty f ≡ Some f) ⊎ ((n : ℕ) × (missing_subr f ≡ Some n) × (faulty n ≡ true))
told_or_misses faulty f = by (missing_subr f) refl where
  shown : (o : Option ℕ) → missing_subr f ≡ o → is_some_and faulty o ≡ false → told_failure faulty f ≡ Some f
  shown o is none = ap (λ x. cond (is_some_and faulty x) None (Some f)) is ∙ ap (λ b. cond b None (Some f)) none

  by : (o : Option ℕ) → missing_subr f ≡ o → (told_failure faulty f ≡ Some f) ⊎ ((n : ℕ) × (missing_subr f ≡ Some n) × (faulty n ≡ true))
  by None is = inl (shown None is refl)
  by (Some n) is =
      elim (cases_Bool (faulty n)) [
        | inl faulty_there ↦ inr (n, is, faulty_there)
        | inr fine ↦ inl (shown (Some n) is fine)
      ]

-- a Subr whose words have a fault has one that is told
faulty_told : (f : Entry → List FoundFault) → ((x : Entry) (code : Code) (place : Place) → IsTold code place (body_faults x) → IsTold code place (f x))
    → (items : List Item) (es : List Entry) (n : ℕ) → AreOf items es → list_any (is_faulty_subr n) items ≡ true → (code : Code) × IsTold code (places.Subr n) (flat_map f es)
faulty_told f first [] es n are there = absurd (cc)
faulty_told f first (Plain l ∷ items) es n are there = faulty_told f first items es n are there
faulty_told f first (Section before count after ∷ items) es n are there = faulty_told f first items es n are there
faulty_told f first (Subr number words closing ∷ items) [] n are there = absurd are
faulty_told f first (Subr number words closing ∷ items) (e ∷ es) n are there =
    by (λ h. faulty_told f first items es n are.2 h) (nat_eq n number) (commands words) refl refl there
  where
    later : (code : Code) × IsTold code (places.Subr n) (flat_map f es) → (code : Code) × IsTold code (places.Subr n) (flat_map f (e ∷ es))
    later w = (w.0, told_right w.0 (places.Subr n) (f e) (flat_map f es) w.1)

    by : (list_any (is_faulty_subr n) items ≡ true → (code : Code) × IsTold code (places.Subr n) (flat_map f es)) → (b : Bool) (r : Result (List Command) Code) → nat_eq n number ≡ b → commands words ≡ r
        → ((b && is_none (result_ok r)) || list_any (is_faulty_subr n) items) ≡ true → (code : Code) × IsTold code (places.Subr n) (flat_map f (e ∷ es))
    by below false r other is h = later (below h)
    by below true (Ok cs) same fine h = later (below h)
    by below true (Err code) same refused h =
        let here = first e code e.place (body_told e words code are.1 refused) in
        let place = are.0 ∙ ap (λ k. places.Subr k) (sym (numbers_tell.same n number same)) in
        (code, told_left code (places.Subr n) (f e) (flat_map f es) (subst (λ q. IsTold code q (f e)) place here))
faulty_told f first (Glyph name words closing ∷ items) [] n are there = absurd are
faulty_told f first (Glyph name words closing ∷ items) (e ∷ es) n are there =
    let w = faulty_told f first items es n are.2 there in
    (w.0, told_right w.0 (places.Subr n) (f e) (flat_map f es) w.1)

-- ---- a glyph whose own run fails

failure_there : (o : Option Failure) (code : Code) → option_map (λ (f : Failure). f.code) o ≡ Some code → (f : Failure) × (o ≡ Some f)
failure_there None code h = absurd (cc)
failure_there (Some f) code h = (f, refl)

-- it is named, or it misses a Subr of which a fault is told
abbrev RunIsTold : List Item → List FoundFault → List ℕ → Type 0
RunIsTold items found p = (list_any (names_glyph p) found ≡ true) ⊎ ((n : ℕ) × (code : Code) × MissesSubr (font_to_run items) p n × IsTold code (places.Subr n) found)

run_named : (items : List Item) (es : List Entry) (p : List ℕ) (code : Code) → AreOf items es → own (font_to_run items) p ≡ Some (Err code)
    → RunIsTold items (flat_map (faults_with (failed_runs (failures_in items) es)) es) p
run_named items es p code are fails =
    let failed = failed_runs (failures_in items) es in
    let faulty = λ (n : ℕ). list_any (is_faulty_subr n) items in
    let there = is_glyph_of items p code fails in
    let w = failure_there (glyph_failure (font_to_run items) p) code (sym (run_fails (font_to_run items) p) ∙ ap first_fault_of_run fails) in
    elim (told_or_misses faulty w.0) [
      | inl told ↦ inl (told_named items es p w.0 are there (ap (option_and_then (told_failure faulty)) w.1 ∙ told))
      | inr misses ↦
          let t = faulty_told (faults_with failed) (λ x. λ c. λ place. λ h. told_first c place (body_faults x) (run_faults (own_fault failed) (faults_at failed) x) h) items es misses.0 are misses.2 in
          inr (misses.0, t.0, (w.0, w.1, misses.1), t.1)
    ]

-- ---- each glyph that fails

fails_named : (s : SourceParts) (es : List Entry) → AreOf s.items es → NamesFailing s (faults_among s es)
fails_named s es are g code there fails =
    let run = own (font_to_run s.items) in
    let names = glyph_names s.items in
    let failed = failed_runs (failures_in s.items) es in
    let mine = flat_map (faults_with failed) es in
    let file = file_faults (bodies_check s.items) (file_check s) in
    let joins = flat_map (join_faults run) es in
    let alone = faults_alone s es in
    elim (cases_Bool (sound_within run 4 g)) [
      | inl sound ↦
          let told = join_told run s.items es g code are there sound fails in
          inl (named_told run names alone code g (told_right code (places.Glyph g) mine (file ++ joins) (told_right code (places.Glyph g) file joins told)))
      | inr not_sound ↦
          let u = unsound run 4 g not_sound in
          elim (run_named s.items es u.0 u.1 are u.3) [
            | inl named ↦ inl (named_on run names alone g u.0 u.1 there u.2 u.3 (any_left (names_glyph u.0) mine (file ++ joins) named))
            | inr misses ↦
                let n = misses.0 in
                let told = told_left misses.1 (places.Subr n) mine (file ++ joins) misses.3 in
                inr (u.0, n, misses.1, u.2, misses.2, told_still misses.1 (places.Subr n) (composites_of run names) [] alone told)
          ]
    ]

pub failing_named : (bytes : List ℕ) (s : SourceParts) → reads bytes ≡ Ok s → NamesFailing s (source_faults bytes)
failing_named bytes s e =
    subst (λ r. NamesFailing s (faults_read (lines bytes) r)) (sym e)
    (fails_named s (entries_in (parts_of (lines bytes)) s) (read_entries bytes s e))
