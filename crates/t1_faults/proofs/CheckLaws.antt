-- A source has no fault that is found exactly where check passes.
use Rattle.std.proofs.Common.{◌≡◌, ◌∙◌, ℕ, Bool, true, false, cond, ◌||◌, ◌<◌, List, [], ◌∷◌, ◌++◌, length, map, Option, None, Some, Result, Ok, Err, refl, sym, ap, subst, inl, inr, arith}
use Rattle.std.specs.Prelude.{flat_map, option_map}
use Rattle.std.specs.List.{list_any, range_with_len, AllByRecursion}
use Rattle.std.specs.Option.{option_and_then, option_to_list}
use Rattle.std.specs.Str.{bytes_eq}
use Rattle.std.proofs.lemmas.Bool.{cases_Bool}
use Rattle.t1_frac.specs.Outcome.{fault_at, reported_at, Refuses, ◌>>=◌}
use Rattle.t1_frac.specs.declared.fault.Refusal.{Refusal}
use Rattle.t1_frac.specs.declared.fault.Code.{Code}
use Rattle.t1_frac.specs.declared.fault.Fault.{Fault}
use Rattle.t1_frac.specs.declared.fault.Refusal.TheVariants as refusals
use Rattle.t1_frac.specs.declared.fault.Place.{Place}
use Rattle.t1_frac.specs.declared.fault.Place.TheVariants as places
use Rattle.t1_frac.proofs.OutcomeLaws.{bind_ok}
use Rattle.t1_text.specs.Lines.{lines}
use Rattle.t1_parts.specs.declared.item.Item.{Item}
use Rattle.t1_parts.specs.Parts.{parts_of}
use Rattle.t1_parts.specs.Reading.{reads}
use Rattle.t1_parts.specs.SourceParts.{SourceParts}
use Rattle.t1_code.specs.declared.command.Command.{Command}
use Rattle.t1_afm.specs.Box.{united}
use Rattle.t1_run.specs.Run.{Drawing, own}
use Rattle.t1_run.proofs.Asked.{bytes_same, bytes_self}
use Rattle.t1_font.specs.declared.glyph_metrics.GlyphMetrics.{GlyphMetrics}
use Rattle.t1_font.specs.Assembly.{file_check}
use Rattle.t1_font.specs.Bodies.{bodies_check}
use Rattle.t1_font.specs.Glyphs.{glyph_names}
use Rattle.t1_font.specs.MeasuredGlyphs.{MeasuredFont, glyph_metrics_at, measured}
use Rattle.t1_font.specs.MetricsByRuns.{glyph_metrics_among}
use Rattle.t1_font.specs.SourceChecks.{measured_source, source_check}
use Rattle.t1_font.specs.ToRun.{font_to_run, glyph_to_run}
use Rattle.t1_font.proofs.Compiling.{none-there}
use Rattle.t1_font.proofs.Gathering.{put_after, one-refused, one-reported}
use Rattle.t1_font.proofs.InTurnLaws.{faulty-metrics, names-known}
use Rattle.t1_font.proofs.LengthLaws.{body_fault_reported}
use Rattle.t1_font.proofs.Measuring.{all-refused, all-reported, own-none}
use Rattle.t1_font.proofs.MeasuringTurns.{runs-own}
use Rattle.t1_chain.specs.Failing.{Failure, LeadsTo, failure_in}
use Rattle.t1_chain.proofs.LeadingLaws.{calls_lead}
use Rattle.t1_faults.specs.Entries.{Entry, placed_words}
use Rattle.t1_faults.specs.Failing.{failures_in, is_faulty_subr, is_some_and, missing_subr, told_failure}
use Rattle.t1_faults.specs.Found.{refused_code}
use Rattle.t1_faults.specs.Met.{failed_runs, faults_at, last_entered, met_in, own_fault, run_fault}
use Rattle.t1_chain.specs.GlyphFailures.{GlyphFailure}
use Rattle.t1_faults.specs.Reading.{reading_fault}
use Rattle.t1_faults.specs.Composites.{OwnRuns, composites_of, with_composites}
use Rattle.t1_faults.specs.Judging.{checked, entries_in, entry_faults, faults_alone, faults_among, faults_of, faults_read, first_fault_of_run, file_faults, join_faults, source_faults}
use Rattle.t1_faults.proofs.CompositeLaws.{none_still}
use Rattle.t1_faults.proofs.EntryLaws.{read_entries}
use Rattle.t1_faults.proofs.FailureLaws.{runs_told}
use Rattle.t1_faults.proofs.MetLaws.{HasMet, IsSubr, both, glyph_there, last_there, met_at_word, met_there, nothing_met, one_of, own_met, run_of, run_there, subr_there}
use Rattle.t1_faults.proofs.SoundLaws.{bodies_fine, both_none, entries_fine, none_joined, items_sound, joins_fine, joins_sound}
use Rattle.t1_faults.proofs.TakenLaws.{AreOf}

or_second : (a b : Bool) → b ≡ true → (a || b) ≡ true
or_second true b h = refl
or_second false b h = h

or_first : (a b : Bool) → a ≡ true → (a || b) ≡ true
or_first true b h = refl
or_first false b h = absurd (cc)

pub after_none : (r : Result (List GlyphMetrics) Fault) → put_after [] r ≡ r
after_none (Ok rest) = refl
after_none (Err fault) = refl

none_among : (run : OwnRuns) → glyph_metrics_among run [] ≡ Ok []
unfolding glyph_metrics_among
none_among run = refl

abbrev AllMeasured : OwnRuns → List (List ℕ) → Type 0
AllMeasured run names = (g : List ℕ) → list_any (bytes_eq g) names ≡ true → refused_code (glyph_metrics_at run g) ≡ None

pub among_all : (run : OwnRuns) (names : List (List ℕ)) → AllMeasured run names → (ms : List GlyphMetrics) × (glyph_metrics_among run names ≡ Ok ms)
among_all run [] h = ([], none_among run)
among_all run (name ∷ names) h = by (among_all run names (λ g k. h g (or_second (bytes_eq g name) (list_any (bytes_eq g) names) k))) (glyph_metrics_at run name) refl where
  by : (ms : List GlyphMetrics) × (glyph_metrics_among run names ≡ Ok ms) → (r : Result GlyphMetrics Code) → glyph_metrics_at run name ≡ r → (ms : List GlyphMetrics) × (glyph_metrics_among run (name ∷ names) ≡ Ok ms)
  by more (Ok s) e =
      let one = one-reported run [] name names s (ap (reported_at (places.Glyph name)) e) in
      (s ∷ more.0, sym (after_none (glyph_metrics_among run (name ∷ names))) ∙ sym one ∙ ap (put_after (s ∷ [])) more.1)
  by more (Err code) e =
      let none : Some code ≡ None = ap refused_code (sym e) ∙ h name (or_first (bytes_eq name name) (list_any (bytes_eq name) names) (bytes_self name)) in
      absurd (cc)

among_each : (run : OwnRuns) (names : List (List ℕ)) (ms : List GlyphMetrics) → glyph_metrics_among run names ≡ Ok ms → AllMeasured run names
among_each run [] ms all g h = absurd (cc)
among_each run (name ∷ names) ms all g h = by (λ more f k. among_each run names more f g k) (glyph_metrics_at run name) refl where
  left : ((more : List GlyphMetrics) → glyph_metrics_among run names ≡ Ok more → list_any (bytes_eq g) names ≡ true → refused_code (glyph_metrics_at run g) ≡ None) → (s : GlyphMetrics) (r : Result (List GlyphMetrics) Fault) → glyph_metrics_among run names ≡ r → put_after (s ∷ []) r ≡ Ok ms
      → glyph_metrics_at run name ≡ Ok s → refused_code (glyph_metrics_at run g) ≡ None
  left below s (Ok more) f k e =
      elim (cases_Bool (bytes_eq g name)) [
        | inl same ↦ ap (λ x. refused_code (glyph_metrics_at run x)) (bytes_same g name same) ∙ ap refused_code e
        | inr other ↦ below more f (rw other at h)
      ]
  left below s (Err fault) f k e = absurd (cc)

  by : ((more : List GlyphMetrics) → glyph_metrics_among run names ≡ Ok more → list_any (bytes_eq g) names ≡ true → refused_code (glyph_metrics_at run g) ≡ None) → (r : Result GlyphMetrics Code) → glyph_metrics_at run name ≡ r → refused_code (glyph_metrics_at run g) ≡ None
  by below (Ok s) e =
      let one = one-reported run [] name names s (ap (reported_at (places.Glyph name)) e) in
      left below s (glyph_metrics_among run names) refl (one ∙ ap (put_after []) all) e
  by below (Err code) e =
      let fault = fault_at (places.Glyph name) code in
      let refused : put_after [] (glyph_metrics_among run (name ∷ names)) ≡ Err fault = one-refused run [] name names (refusals.Fault fault) (ap (reported_at (places.Glyph name)) e) in
      let none : ◌≡◌ {A = Result (List GlyphMetrics) Fault} (Ok ms) (Err fault) = sym (ap (put_after []) all) ∙ refused in
      absurd (cc)

-- one glyph, measured
pub one_measured : (run : OwnRuns) (name : List ℕ) (ms : List GlyphMetrics) → glyph_metrics_among run (name ∷ []) ≡ Ok ms → ◌≡◌ {A = Option Code} None (refused_code (glyph_metrics_at run name))
one_measured run name ms e = sym (among_each run (name ∷ []) ms e name (or_first (bytes_eq name name) false (bytes_self name)))

pub one_refusal : (run : OwnRuns) (name : List ℕ) (r : Refusal) (fault : Fault) → r ≡ refusals.Fault fault → Refuses r (glyph_metrics_among run (name ∷ []))
    → ◌≡◌ {A = Option Code} (Some fault.code) (refused_code (glyph_metrics_at run name))
one_refusal run name r fault is h = by (subst (λ x. Refuses x (glyph_metrics_among run (name ∷ []))) is h) (glyph_metrics_at run name) refl where
  by : glyph_metrics_among run (name ∷ []) ≡ Err fault → (m : Result GlyphMetrics Code) → glyph_metrics_at run name ≡ m → ◌≡◌ {A = Option Code} (Some fault.code) (refused_code (glyph_metrics_at run name))
  by all (Ok s) e =
      let one = one-reported run [] name [] s (ap (reported_at (places.Glyph name)) e) in
      let none : ◌≡◌ {A = Result (List GlyphMetrics) Fault} (Ok (s ∷ [])) (Err fault) = sym (ap (put_after (s ∷ [])) (none_among run)) ∙ one ∙ ap (put_after []) all in
      absurd (cc)
  by all (Err code) e =
      let refused : put_after [] (glyph_metrics_among run (name ∷ [])) ≡ Err (fault_at (places.Glyph name) code) =
      one-refused run [] name [] (refusals.Fault (fault_at (places.Glyph name) code)) (ap (reported_at (places.Glyph name)) e) in
      let both : ◌≡◌ {A = Result (List GlyphMetrics) Fault} (Err (fault_at (places.Glyph name) code)) (Err fault) = sym refused ∙ ap (put_after []) all in
      let same : fault_at (places.Glyph name) code ≡ fault = cc in
      ap (λ (f : Fault). Some f.code) (sym same) ∙ sym (ap refused_code e)

fits : (bodies file : Result (Unit {0}) Fault) → bodies ≡ Ok tt → file_faults bodies file ≡ [] → file ≡ Ok tt
fits (Ok u) (Ok v) e h = refl
fits (Ok u) (Err fault) e h = absurd (cc)
fits (Err first) file e h = absurd (cc)

no_file_fault : (bodies file : Result (Unit {0}) Fault) → file ≡ Ok tt → file_faults bodies file ≡ []
no_file_fault (Ok u) (Ok v) e = refl
no_file_fault (Ok u) (Err fault) e = absurd (cc)
no_file_fault (Err first) file e = refl

-- what has no run has no fault of one
pub absent : (items : List Item) (g : List ℕ) → list_any (bytes_eq g) (glyph_names items) ≡ false → first_fault_of_run (own (font_to_run items) g) ≡ None
absent items g h = ap first_fault_of_run (own-none (font_to_run items) g (none-there (glyph_to_run items g) (sym (names-known items g) ∙ h)))

passes_check : (s : SourceParts) (font : MeasuredFont) → file_check s ≡ Ok tt → measured s.items ≡ Ok font → source_check s ≡ Ok tt
unfolding measured_source
passes_check s font file glyphs = rw (file, glyphs) refl

pub same_told : (faulty : ℕ → Bool) (o : Option Failure) (f : Failure) → option_and_then (told_failure faulty) o ≡ Some f → o ≡ Some f
same_told faulty None f e = absurd (cc)
same_told faulty (Some x) f e = by (is_some_and faulty (missing_subr x)) e where
  by : (b : Bool) → cond b None (Some x) ≡ Some f → Some x ≡ Some f
  by true e' = absurd (cc)
  by false e' = e'

-- the calls of a failure that is told lead to its word
pub leads : (items : List Item) (g : List ℕ) (f : Failure) → failures_in items g ≡ Some f → (count : ℕ) × LeadsTo (font_to_run items) count f.calls f.word
leads items g f e = by (glyph_to_run items g) e where
  by : (body : Option (List Command)) → option_and_then (told_failure (λ n. list_any (is_faulty_subr n) items)) (option_and_then (failure_in (font_to_run items)) body) ≡ Some f
      → (count : ℕ) × LeadsTo (font_to_run items) count f.calls f.word
  by None h = absurd (cc)
  by (Some body) h = (length body, calls_lead (font_to_run items) body f (same_told (λ n. list_any (is_faulty_subr n) items) (failure_in (font_to_run items) body) f h))

-- nothing was met in an entry
abbrev MetNothing : List GlyphFailure → Entry → Type 0
MetNothing failed e = met_in (own_fault failed) (faults_at failed) e.place (length (placed_words e)) ≡ []

-- where nothing was met in any entry, no glyph's run fails
never_fails : (items : List Item) (es : List Entry) → AreOf items es → AllByRecursion (MetNothing (failed_runs (failures_in items) es)) es
    → (g : List ℕ) → list_any (bytes_eq g) (glyph_names items) ≡ true → failures_in items g ≡ None
never_fails items es are none g there = by (failures_in items g) refl where
  met : (f : Failure) → failures_in items g ≡ Some f → (o : Option ℕ) → last_entered f.calls ≡ o → ⊥
  met f e None last =
      let failed = failed_runs (failures_in items) es in
      let here = one_of (λ x. (x.place ≡ places.Glyph g) × MetNothing failed x) es (both (λ x. x.place ≡ places.Glyph g) (MetNothing failed) es (glyph_there items es g are there) none) in
      let count = length (placed_words here.0) in
      let own : option_to_list (own_fault failed g) ≡ [] = sym (ap (λ place. met_in (own_fault failed) (faults_at failed) place count) here.1.0) ∙ here.1.1 in
      let some : run_fault [] f ∷ [] ≡ [] = sym (ap option_to_list (own_met (failures_in items) g f es e last (glyph_there items es g are there))) ∙ own in
      absurd (cc)
  met f e (Some n) last =
      let failed = failed_runs (failures_in items) es in
      let lead = leads items g f e in
      let body = last_there (font_to_run items) lead.0 f.calls f.word n lead.1 last in
      let here = one_of (λ x. IsSubr n body.0 x × MetNothing failed x) es (both (IsSubr n body.0) (MetNothing failed) es (subr_there items es n body.0 are body.1) none) in
      let count = length (placed_words here.0) in
      let inside : f.word < count = omega (arith, body.2, here.1.0.1) in
      let run = run_there (failures_in items) g f e es (glyph_there items es g are there) in
      let some = met_at_word f.code g (faults_at failed n) count f.word inside (met_there (run_of g f) n failed run last) in
      let nothing : flat_map (faults_at failed n) (range_with_len 0 count) ≡ [] = sym (ap (λ place. met_in (own_fault failed) (faults_at failed) place count) here.1.0.0) ∙ here.1.1 in
      subst (HasMet f.code g) nothing some

  by : (o : Option Failure) → failures_in items g ≡ o → failures_in items g ≡ None
  by None e = e
  by (Some f) e = absurd (met f e (last_entered f.calls) refl)

found_none_of : (s : SourceParts) (es : List Entry) → AreOf s.items es → faults_alone s es ≡ [] → source_check s ≡ Ok tt
found_none_of s es are none =
    let run = own (font_to_run s.items) in
    let failed = failed_runs (failures_in s.items) es in
    let first = both_none (flat_map (entry_faults (own_fault failed) (faults_at failed)) es) (file_faults (bodies_check s.items) (file_check s) ++ flat_map (join_faults run) es) none in
    let second = both_none (file_faults (bodies_check s.items) (file_check s)) (flat_map (join_faults run) es) first.1 in
    let sound = items_sound (own_fault failed) (faults_at failed) s.items es are first.0 in
    let fine : (g : List ℕ) → first_fault_of_run (run g) ≡ None = λ g. elim (cases_Bool (list_any (bytes_eq g) (glyph_names s.items))) [
      | inl there ↦ runs_told s.items sound.0 g ∙ ap (option_map (λ (f : Failure). f.code)) (never_fails s.items es are sound.1 g there)
      | inr not_there ↦ absent s.items g not_there
    ] in
    let file = fits (bodies_check s.items) (file_check s) sound.0 second.0 in
    let ms = among_all run (glyph_names s.items) (joins_sound run s.items es are fine second.1) in
    let box = united (map (λ (m : GlyphMetrics). m.bbox) ms.0) in
    passes_check s (record { metrics = ms.0; font_box = box }) file (all-reported s.items run ms.0 box (runs-own s.items sound.0) ms.1 refl)

-- where nothing is found, check passes
pub found_none : (bytes : List ℕ) → source_faults bytes ≡ [] → checked bytes ≡ Ok tt
found_none bytes none = by (reads bytes) refl where
  by : (r : Result SourceParts Fault) → reads bytes ≡ r → checked bytes ≡ Ok tt
  by (Ok s) e =
      let es = entries_in (parts_of (lines bytes)) s in
      let run = own (font_to_run s.items) in
      let listed : faults_among s es ≡ [] = ap (faults_read (lines bytes)) (sym e) ∙ none in
      let alone = none_still (composites_of run (glyph_names s.items)) [] (faults_alone s es) listed in
      ap (λ r. r >>= source_check) e ∙ found_none_of s es (read_entries bytes s e) alone
  by (Err fault) e = let some : reading_fault (lines bytes) fault ∷ [] ≡ [] = ap (faults_read (lines bytes)) (sym e) ∙ none in absurd (cc)

-- ---- and the other way round

pub bodies_pass : (s : SourceParts) → file_check s ≡ Ok tt → bodies_check s.items ≡ Ok tt
bodies_pass s file = by (bodies_check s.items) refl where
  by : (r : Result (Unit {0}) Fault) → bodies_check s.items ≡ r → bodies_check s.items ≡ Ok tt
  by (Ok u) e = e
  by (Err fault) e = let none : ◌≡◌ {A = Result (Unit {0}) Fault} (Ok tt) (Err fault) = sym file ∙ body_fault_reported s fault e in absurd (cc)

all_measured : (items : List Item) (font : MeasuredFont) → bodies_check items ≡ Ok tt → measured items ≡ Ok font → AllMeasured (own (font_to_run items)) (glyph_names items)
all_measured items font bodies glyphs = by (glyph_metrics_among (own (font_to_run items)) (glyph_names items)) refl where
  by : (r : Result (List GlyphMetrics) Fault) → glyph_metrics_among (own (font_to_run items)) (glyph_names items) ≡ r → AllMeasured (own (font_to_run items)) (glyph_names items)
  by (Ok ms) e = among_each (own (font_to_run items)) (glyph_names items) ms e
  by (Err fault) e =
      let refused : measured items ≡ Err fault = all-refused items (own (font_to_run items)) (refusals.Fault fault) (runs-own items bodies) e in
      let none : ◌≡◌ {A = Result MeasuredFont Fault} (Ok font) (Err fault) = sym glyphs ∙ refused in
      absurd (cc)

run_passes : (run : OwnRuns) (g : List ℕ) → refused_code (glyph_metrics_at run g) ≡ None → first_fault_of_run (run g) ≡ None
run_passes run g h = by (run g) refl where
  by : (r : Option (Result Drawing Code)) → run g ≡ r → first_fault_of_run (run g) ≡ None
  by None e = ap first_fault_of_run e
  by (Some (Ok d)) e = ap first_fault_of_run e
  by (Some (Err code)) e = let some : Some code ≡ None = ap refused_code (sym (faulty-metrics run g code e)) ∙ h in absurd (cc)

never_told : (o : Option Failure) → option_map (λ (f : Failure). f.code) o ≡ None → o ≡ None
never_told None e = refl
never_told (Some f) e = absurd (cc)

none_alone : (s : SourceParts) (es : List Entry) → AreOf s.items es → source_check s ≡ Ok tt → faults_alone s es ≡ []
unfolding measured_source
none_alone s es are passed =
    let run = own (font_to_run s.items) in
    let F = failures_in s.items in
    let font = bind_ok (file_check s >>= λ fine. measured s.items) (λ (m : MeasuredFont). Ok tt) tt passed in
    let file = bind_ok (file_check s) (λ fine. measured s.items) font.0 font.1 in
    let whole : file_check s ≡ Ok tt = file.1 in
    let bodies = bodies_pass s whole in
    let each = all_measured s.items font.0 bodies file.2 in
    let fine : (g : List ℕ) → first_fault_of_run (run g) ≡ None = λ g. elim (cases_Bool (list_any (bytes_eq g) (glyph_names s.items))) [
      | inl there ↦ run_passes run g (each g there)
      | inr not_there ↦ absent s.items g not_there
    ] in
    let none : (g : List ℕ) → F g ≡ None = λ g. never_told (F g) (sym (runs_told s.items bodies g) ∙ fine g) in
    let failed = failed_runs F es in
    none_joined (flat_map (entry_faults (own_fault failed) (faults_at failed)) es) (file_faults (bodies_check s.items) (file_check s) ++ flat_map (join_faults run) es)
    (entries_fine (own_fault failed) (faults_at failed) es (bodies_fine s.items es are bodies) (nothing_met F none es))
    (none_joined (file_faults (bodies_check s.items) (file_check s)) (flat_map (join_faults run) es)
    (no_file_fault (bodies_check s.items) (file_check s) whole) (joins_fine run s.items es are each))

pub none_found_of : (s : SourceParts) (es : List Entry) → AreOf s.items es → source_check s ≡ Ok tt → faults_among s es ≡ []
none_found_of s es are passed = ap (with_composites (own (font_to_run s.items)) (glyph_names s.items)) (none_alone s es are passed)

-- in a source that passes, nothing is found
pub none_where_sound : (bytes : List ℕ) (s : SourceParts) (font : MeasuredFont) → reads bytes ≡ Ok s → measured_source s ≡ Ok font → [] ≡ faults_of (lines bytes) s
none_where_sound bytes s font e passed =
    sym (none_found_of s (entries_in (parts_of (lines bytes)) s) (read_entries bytes s e) (ap (λ (r : Result MeasuredFont Fault). r >>= λ m. Ok tt) passed))

-- where check passes, nothing is found
pub none_found : (bytes : List ℕ) → checked bytes ≡ Ok tt → source_faults bytes ≡ []
none_found bytes passed = by (reads bytes) refl where
  by : (r : Result SourceParts Fault) → reads bytes ≡ r → source_faults bytes ≡ []
  by (Ok s) e =
      let judged : source_check s ≡ Ok tt = ap (λ r. r >>= source_check) (sym e) ∙ passed in
      ap (faults_read (lines bytes)) e ∙ none_found_of s (entries_in (parts_of (lines bytes)) s) (read_entries bytes s e) judged
  by (Err fault) e = let none : ◌≡◌ {A = Result (Unit {0}) Fault} (Err fault) (Ok tt) = ap (λ r. r >>= source_check) (sym e) ∙ passed in absurd (cc)
