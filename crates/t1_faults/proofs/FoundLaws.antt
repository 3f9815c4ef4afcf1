-- The source has the word of each fault at its line and column.
use Rattle.std.proofs.Common.{◌≡◌, ◌∙◌, ℕ, zero, suc, ◌+◌, ◌-◌, List, [], ◌∷◌, ◌++◌, length, take, drop, map, Option, None, Some, Result, Ok, Err, refl, sym, ap, subst, inl, inr}
use Rattle.std.specs.Prelude.{nat_lt, flat_map, option_map, slice_get}
use Rattle.std.specs.List.{AllByRecursion}
use Rattle.std.specs.Option.{option_to_list}
use Rattle.std.proofs.lemmas.Bool.{cases_Bool}
use Rattle.std.proofs.lemmas.List.{append_assoc, take-append-drop}
use Rattle.t1_frac.specs.declared.fault.Code.{Code}
use Rattle.t1_frac.specs.declared.fault.Place.{Place}
use Rattle.t1_code.specs.declared.command.Command.{Command}
use Rattle.t1_code.specs.Words.{command_of_word}
use Rattle.t1_faults.specs.declared.found.FoundFault.{FoundFault}
use Rattle.t1_faults.specs.declared.placed.PlacedWord.{PlacedWord}
use Rattle.t1_faults.specs.declared.run_fault.RunFault.{RunFault}
use Rattle.t1_faults.specs.Entries.{Entry, placed_words}
use Rattle.t1_faults.specs.Failing.{failures_in}
use Rattle.t1_faults.specs.Found.{at_entry, at_place, body_faults, in_entry, length_faults, word_faults}
use Rattle.t1_faults.specs.Composites.{OwnRuns, composites_of}
use Rattle.t1_faults.specs.Judging.{entry_faults, join_fault, join_faults, or_else, run_faults}
use Rattle.t1_faults.specs.Met.{failed_runs, faults_at, met_in, own_fault}
use Rattle.t1_faults.specs.Telling.{TellsWord}
use Rattle.t1_frac.specs.declared.fault.Fault.{Fault}
use Rattle.t1_text.specs.Lines.{lines}
use Rattle.t1_parts.specs.Parts.{parts_of}
use Rattle.t1_parts.specs.Reading.{reads}
use Rattle.t1_parts.specs.SourceParts.{SourceParts}
use Rattle.t1_source.proofs.WellFormedSourceLaws.{taken_apart, TakenApart}
use Rattle.t1_run.specs.Run.{own}
use Rattle.t1_font.specs.Assembly.{file_check}
use Rattle.t1_font.specs.Bodies.{bodies_check}
use Rattle.t1_font.specs.Glyphs.{glyph_names}
use Rattle.t1_font.specs.ToRun.{font_to_run}
use Rattle.t1_faults.specs.Judging.{entries_in, faults_alone, faults_of, faults_read, file_faults, source_faults}
use Rattle.t1_faults.proofs.CompositeLaws.{words_still}
use Rattle.t1_faults.proofs.LineLaws.{FaultsIn, parts_whole, placed_tells, reading_in}
use Rattle.t1_faults.proofs.PlacedLaws.{all_append}
use Rattle.t1_faults.proofs.StandingLaws.{Stands, WordsStand, entries_stand}

words_tell : (all : List (List ℕ)) (place : Place) (ws : List PlacedWord) → AllByRecursion (Stands all) ws → AllByRecursion (TellsWord all) (word_faults place ws)
words_tell all place [] h = tt
words_tell all place (w ∷ ws) h = by (words_tell all place ws h.1) (command_of_word w.word) refl where
  by : AllByRecursion (TellsWord all) (word_faults place ws) → (r : Result Command Code) → command_of_word w.word ≡ r → AllByRecursion (TellsWord all) (word_faults place (w ∷ ws))
  by below (Ok c) e = rw e below
  by below (Err code) e = rw e (h.0, below)

body_tells : (all : List (List ℕ)) (e : Entry) → WordsStand all e → AllByRecursion (TellsWord all) (body_faults e)
body_tells all e h =
    all_append (TellsWord all) (length_faults e (placed_words e)) (word_faults e.place (placed_words e)) lengths (words_tell all e.place (placed_words e) h)
  where
    lengths : AllByRecursion (TellsWord all) (length_faults e (placed_words e))
    lengths = elim (cases_Bool (nat_lt 65535 (length (placed_words e)))) [
      | inl long ↦ rw long (tt, tt)
      | inr short ↦ rw short tt
    ]

one_tells : (all : List (List ℕ)) (e : Entry) (code : Option Code) → AllByRecursion (TellsWord all) (option_to_list (option_map (at_entry e) code))
one_tells all e None = tt
one_tells all e (Some code) = (tt, tt)

either_tell : (all : List (List ℕ)) (xs ys : List FoundFault) → AllByRecursion (TellsWord all) xs → AllByRecursion (TellsWord all) ys → AllByRecursion (TellsWord all) (or_else xs ys)
either_tell all [] ys h k = k
either_tell all (x ∷ xs) ys h k = h

-- the word of a fault that runs met stands there
place_tells : (all : List (List ℕ)) (e : Entry) (ws : List PlacedWord) → AllByRecursion (Stands all) ws → (f : RunFault) (i : ℕ) → TellsWord all (at_place e (slice_get ws i) f)
place_tells all e [] h f i = tt
place_tells all e (w ∷ ws) h f zero = h.0
place_tells all e (w ∷ ws) h f (suc i) = place_tells all e ws h.1 f i

runs_tell : (all : List (List ℕ)) (e : Entry) (ws : List PlacedWord) → AllByRecursion (Stands all) ws → (fs : List RunFault) → AllByRecursion (TellsWord all) (map (in_entry e ws) fs)
runs_tell all e ws h [] = tt
runs_tell all e ws h (f ∷ fs) = (place_tells all e ws h f f.word, runs_tell all e ws h fs)

entries_tell : (all : List (List ℕ)) (in_glyph : List ℕ → Option RunFault) (in_subr : ℕ → ℕ → List RunFault) (es : List Entry) → AllByRecursion (WordsStand all) es
    → AllByRecursion (TellsWord all) (flat_map (entry_faults in_glyph in_subr) es)
entries_tell all in_glyph in_subr [] h = tt
entries_tell all in_glyph in_subr (e ∷ es) h =
    all_append (TellsWord all) (entry_faults in_glyph in_subr e) (flat_map (entry_faults in_glyph in_subr) es)
    (either_tell all (body_faults e) (run_faults in_glyph in_subr e) (body_tells all e h.0) (runs_tell all e (placed_words e) h.0 (met_in in_glyph in_subr e.place (length (placed_words e)))))
    (entries_tell all in_glyph in_subr es h.1)

joins_tell : (all : List (List ℕ)) (run : OwnRuns) (es : List Entry) → AllByRecursion (TellsWord all) (flat_map (join_faults run) es)
joins_tell all run [] = tt
joins_tell all run (e ∷ es) =
    all_append (TellsWord all) (join_faults run e) (flat_map (join_faults run) es) (one_tells all e (join_fault run e.place)) (joins_tell all run es)

-- ---- a source

lines_stand : (ls : List (List ℕ)) (s : SourceParts) → TakenApart ls s → AllByRecursion (WordsStand ls) (entries_in (parts_of ls) s)
lines_stand ls s t =
    let n = length t.parts.private - 1 in
    let whole : ls ≡ t.parts.clear ++ (take n t.parts.private ++ (drop n t.parts.private ++ t.parts.tail)) =
    parts_whole ls t.parts t.cut ∙ ap (λ x. t.parts.clear ++ (x ++ t.parts.tail)) (sym (take-append-drop n t.parts.private))
    ∙ ap (λ x. t.parts.clear ++ x) (append_assoc (take n t.parts.private) (drop n t.parts.private) t.parts.tail) in
    let clear : t.parts.clear ≡ s.clear = ap (λ (m : SourceParts). m.clear) t.same in
    let number : length s.clear + 1 ≡ length t.parts.clear + 1 = ap (λ (c : List (List ℕ)). length c + 1) (sym clear) in
    subst (λ r. AllByRecursion (WordsStand ls) (entries_in r s)) (sym t.cut)
    (entries_stand ls t.parts.clear (drop n t.parts.private ++ t.parts.tail) (length s.clear + 1) (take n t.parts.private) s.items whole number)

file_tells : (all : List (List ℕ)) (bodies file : Result (Unit {0}) Fault) → AllByRecursion (TellsWord all) (file_faults bodies file)
file_tells all (Ok u) (Ok v) = tt
file_tells all (Ok u) (Err fault) = (tt, tt)
file_tells all (Err first) file = tt

found_of : (ls : List (List ℕ)) (s : SourceParts) → AllByRecursion (WordsStand ls) (entries_in (parts_of ls) s) → AllByRecursion (TellsWord ls) (faults_of ls s)
found_of ls s h =
    let run = own (font_to_run s.items) in
    let es = entries_in (parts_of ls) s in
    let failed = failed_runs (failures_in s.items) es in
    let mine = flat_map (entry_faults (own_fault failed) (faults_at failed)) es in
    let file = file_faults (bodies_check s.items) (file_check s) in
    words_still ls (composites_of run (glyph_names s.items)) [] (faults_alone s es)
    (all_append (TellsWord ls) mine (file ++ flat_map (join_faults run) es) (entries_tell ls (own_fault failed) (faults_at failed) es h)
    (all_append (TellsWord ls) file (flat_map (join_faults run) es) (file_tells ls (bodies_check s.items) (file_check s)) (joins_tell ls run es)))

read_there : (bytes : List ℕ) (s : SourceParts) → reads bytes ≡ Ok s → AllByRecursion (TellsWord (lines bytes)) (faults_of (lines bytes) s)
unfolding reads
read_there bytes s e = found_of (lines bytes) s (lines_stand (lines bytes) s (taken_apart (lines bytes) s e))

-- the bytes have the word of each fault that is found at its line and column
pub words_there : (bytes : List ℕ) → AllByRecursion (TellsWord (lines bytes)) (source_faults bytes)
words_there bytes = by (reads bytes) refl where
  by : (r : Result SourceParts Fault) → reads bytes ≡ r → AllByRecursion (TellsWord (lines bytes)) (source_faults bytes)
  by (Ok s) e = subst (λ r. AllByRecursion (TellsWord (lines bytes)) (faults_read (lines bytes) r)) (sym e) (read_there bytes s e)
  by (Err fault) e =
      let inside = subst (FaultsIn 1 (1 + length (lines bytes))) e (reading_in bytes) in
      subst (λ r. AllByRecursion (TellsWord (lines bytes)) (faults_read (lines bytes) r)) (sym e) (placed_tells (lines bytes) fault.code fault.place inside, tt)
