-- What is true of every state that a session reaches.
use Rattle.std.proofs.Common.{◌≡◌, ◌++◌, ℕ, Bool, true, ◌&&◌, List, Option, Some, None, Result, Ok, Err, refl, ◌∙◌, inl, inr, subst}
use Rattle.std.proofs.lemmas.Bool.{cases_Bool}
use Rattle.t1_frac.specs.declared.fault.Fault.{Fault}
use Rattle.t1_frac.specs.Outcome.{◌>>=◌}
use Rattle.t1_text.specs.Lines.{lines}
use Rattle.t1_parts.specs.Reading.{reads}
use Rattle.t1_parts.specs.SourceParts.{SourceParts}
use Rattle.t1_pairs.specs.declared.pairs.Pair.{Pair}
use Rattle.t1_pairs.specs.Kerning.{are_pairs, pairs}
use Rattle.t1_pairs.proofs.KernLaws.{kern_again}
use Rattle.t1_pairs.proofs.PairsWellFormedLaws.{lines_good}
use Rattle.t1_source.specs.declared.edit.Edit.{Edit}
use Rattle.t1_source.specs.declared.edit.Rule.{Rule}
use Rattle.t1_source.specs.Editing.{edited}
use Rattle.t1_source.proofs.SourceAgainLaws.{source_again}
use Rattle.t1_source.proofs.WellFormedEditedLaws.{edited_pairs, edited_well_formed}
use Rattle.t1_source.proofs.WellFormedSourceLaws.{source_well_formed}
use Rattle.t1_font.specs.SourceChecks.{source_check}
use Rattle.t1_run.specs.Run.{Key}
use Rattle.t1_cache.specs.EditKeys.{named}
use Rattle.t1_held.specs.Batch.{Draft}
use Rattle.t1_held.proofs.HeldLaws.{counts_checked}
use Rattle.t1_commands.specs.declared.command.SessionCommand.{SessionCommand}
use Rattle.t1_commands.specs.declared.command.SessionCommand.TheVariants as commands
use Rattle.t1_commands.specs.declared.print.Print.TheVariants as prints
use Rattle.t1_commands.specs.declared.show.Show.TheVariants as shows
use Rattle.t1_commands.specs.Answers.{answer_to}
use Rattle.t1_commands.specs.Blocks.{block_size}
use Rattle.t1_commands.specs.Answers.{Performed}
use Rattle.t1_session.specs.declared.refused.Refused.{Refused}
use Rattle.t1_session.specs.Machine.{abort_in, after_want, without_batch, begin_in, blocks_answer, commit_in, drafted, edit_in, file_answer, judged, machine, may_want_memory, noting_refusals, opened, opening_state, outcome, perform, query_answer, scratch, taken}
use Rattle.t1_session.specs.Readable.{AreMade, IsDraftMade, IsFaultless, IsReadable, KeepsFaultless, KeepsReadable, OpensFaultless, OpensReadable, PrintsWithoutFault, ReadsBack, ShowsWithoutFault, TellsNoFault}
use Rattle.t1_session.specs.State.{SessionState}
use Rattle.t1_session.specs.Queries.{encoding_text, glyph_text, subr_text}
use Rattle.t1_outline.proofs.OfSources.{stored, glyph-shown, other-shown}
use Rattle.std.specs.List.{list_any}
use Rattle.t1_parts.specs.Entries.{is_glyph}
use Rattle.t1_outline.specs.Shown.{source_outline}
use Rattle.t1_outline.specs.Text.{outline_text}
use Rattle.t1_session.proofs.StateLaws.{asked_scratch, blocks_there, outline_scratch, metrics_line_there, metrics_there, pfa_there, pfb_there, uses_there}

-- ---- after an answer, marked or not

module _ (P : SessionState → Type 0) (closed : (s : SessionState) → P s → P (without_batch s)) (with-refusal : (s : SessionState) (kept : Option Refused) → P s → P (record s { refused = kept })) where
  after-want : (s : SessionState) (command : SessionCommand) → P s → P (after_want s command)
  after-want s (commands.Edit edit) h = h
  after-want s (commands.Print print) h = h
  after-want s (commands.Show show) h = h
  after-want s commands.Begin h = h
  after-want s commands.Commit h = closed s h
  after-want s commands.Abort h = h
  after-want s (commands.Broken rule) h = h

  after-note : (s : SessionState) (command : SessionCommand) (p : Performed SessionState) → P p.next → P (noting_refusals s command p).next
  after-note s (commands.Edit edit) p h = with-refusal p.next _ h
  after-note s (commands.Print print) p h = h
  after-note s (commands.Show show) p h = h
  after-note s commands.Begin p h = with-refusal p.next _ h
  after-note s commands.Commit p h = with-refusal p.next _ h
  after-note s commands.Abort p h = with-refusal p.next _ h
  after-note s (commands.Broken rule) p h = h

  after-answer : ((s : SessionState) (command : SessionCommand) → P s → P (outcome s command).next) → (s : SessionState) (command : SessionCommand) (mark : Bool) → P s → P (answer_to machine s command mark).next
  unfolding perform
  after-answer performed s command mark h =
      elim (cases_Bool (mark && may_want_memory s command)) [
        | inl wants ↦ rw wants (after-want s command h)
        | inr none ↦ rw none (after-note s command (outcome s command) (performed s command h))
      ]

-- ---- no fault

opened-faultless : (parts : SourceParts) (k : List Pair) (r : Result (Unit {0}) Fault) (s : SessionState) → source_check parts ≡ r
    → ◌≡◌ {A = Result SessionState Fault} (r >>= λ checked. Ok (opening_state parts k)) (Ok s) → IsFaultless s
opened-faultless parts k (Ok checked) s e h =
    let same : opening_state parts k ≡ s = cc in subst IsFaultless same e
opened-faultless parts k (Err fault) s e h = absurd (cc)

pub opens_faultless : OpensFaultless
opens_faultless source kerning s h = opened-faultless source kerning (source_check source) s refl h

judged-faultless : (s : SessionState) (made : SourceParts × List Pair) (r : Result (Unit {0}) Fault) → source_check made.0 ≡ r → IsFaultless s → IsFaultless (judged s made r).next
judged-faultless s made (Ok checked) e h = e
judged-faultless s made (Err fault) e h = h

taken-faultless : (s : SessionState) (r : Result (SourceParts × List Pair) Rule) → IsFaultless s → IsFaultless (taken s r).next
taken-faultless s (Ok made) h = judged-faultless s made (source_check made.0) refl h
taken-faultless s (Err rule) h = h

drafted-faultless : (s : SessionState) (keys : List Key) (r : Result (SourceParts × List Pair) Rule) → IsFaultless s → IsFaultless (drafted s keys r).next
drafted-faultless s keys (Ok made) h = h
drafted-faultless s keys (Err rule) h = h

edit-faultless : (b : Option Draft) (s : SessionState) (edit : Edit) → IsFaultless s → IsFaultless (edit_in b s edit).next
edit-faultless None s edit h = taken-faultless s (edited s.source s.pairs edit) h
edit-faultless (Some d) s edit h = drafted-faultless s (d.keys ++ named edit) (edited d.source d.pairs edit) h

begin-faultless : (b : Option Draft) (s : SessionState) → IsFaultless s → IsFaultless (begin_in b s).next
begin-faultless None s h = h
begin-faultless (Some d) s h = h

commit-faultless : (b : Option Draft) (s : SessionState) → IsFaultless s → IsFaultless (commit_in b s).next
commit-faultless None s h = h
commit-faultless (Some d) s h = judged-faultless s (d.source, d.pairs) (source_check d.source) refl h

abort-faultless : (b : Option Draft) (s : SessionState) → IsFaultless s → IsFaultless (abort_in b s).next
abort-faultless None s h = h
abort-faultless (Some d) s h = h

performed-faultless : (s : SessionState) (command : SessionCommand) → IsFaultless s → IsFaultless (outcome s command).next
unfolding outcome
performed-faultless s (commands.Edit edit) h = edit-faultless s.batch s edit h
performed-faultless s (commands.Print print) h = h
performed-faultless s (commands.Show show) h = h
performed-faultless s commands.Begin h = begin-faultless s.batch s h
performed-faultless s commands.Commit h = commit-faultless s.batch s h
performed-faultless s commands.Abort h = abort-faultless s.batch s h
performed-faultless s (commands.Broken rule) h = h

pub keeps_faultless : KeepsFaultless
keeps_faultless = after-answer IsFaultless (λ s h. h) (λ s kept h. h) performed-faultless

-- ---- readable

alone-readable : (s : SessionState) → IsReadable s → IsReadable (without_batch s)
alone-readable s h = record { faultless = h.faultless; made = h.made; draft = tt }

pairs_made : (bytes : List ℕ) (k : List Pair) → pairs bytes ≡ Ok k → are_pairs k ≡ true
unfolding pairs
pairs_made bytes k e = lines_good 1 (lines bytes) k e

opened-readable : (parts : SourceParts) (k : List Pair) (s : SessionState) → AreMade parts k → opened parts k ≡ Ok s → IsReadable s
opened-readable parts k s made h =
    let faultless = opens_faultless parts k s h in
    of (source_check parts) refl h
  where
    of : (r : Result (Unit {0}) Fault) → source_check parts ≡ r → ◌≡◌ {A = Result SessionState Fault} (r >>= λ checked. Ok (opening_state parts k)) (Ok s) → IsReadable s
    of (Ok checked) e g = let same : opening_state parts k ≡ s = cc in subst IsReadable same (record { faultless = e; made = made; draft = tt })
    of (Err fault) e g = absurd (cc)

loaded-readable : (source kerning : List ℕ) (a : Result SourceParts Fault) (b : Result (List Pair) Fault) (s : SessionState) → reads source ≡ a → pairs kerning ≡ b
    → ◌≡◌ {A = Result SessionState Fault} (a >>= λ parts. b >>= λ k. opened parts k) (Ok s) → IsReadable s
loaded-readable source kerning (Ok parts) (Ok k) s read paired h = opened-readable parts k s (source_well_formed source parts read, pairs_made kerning k paired) h
loaded-readable source kerning (Ok parts) (Err fault) s read paired h = absurd (cc)
loaded-readable source kerning (Err fault) b s read paired h = absurd (cc)

pub opens_readable : OpensReadable
unfolding scratch
opens_readable source kerning s h = loaded-readable source kerning (reads source) (pairs kerning) s refl refl h

edit-made : (source : SourceParts) (k : List Pair) (edit : Edit) (made : SourceParts × List Pair) → edited source k edit ≡ Ok made → AreMade source k → AreMade made.0 made.1
edit-made source k edit made e h = (edited_well_formed source k edit made.0 made.1 h.0 e, edited_pairs source k edit made.0 made.1 h.1 e)

judged-readable : (s : SessionState) (made : SourceParts × List Pair) (r : Result (Unit {0}) Fault) → source_check made.0 ≡ r → AreMade made.0 made.1 → IsReadable s → IsReadable (judged s made r).next
judged-readable s made (Ok checked) e m h = record { faultless = e; made = m; draft = tt }
judged-readable s made (Err fault) e m h = alone-readable s h

taken-readable : (s : SessionState) (edit : Edit) (r : Result (SourceParts × List Pair) Rule) → edited s.source s.pairs edit ≡ r → IsReadable s → IsReadable (taken s r).next
taken-readable s edit (Ok made) e h = judged-readable s made (source_check made.0) refl (edit-made s.source s.pairs edit made e h.made) h
taken-readable s edit (Err rule) e h = h

drafted-readable : (s : SessionState) (d : Draft) (keys : List Key) (edit : Edit) (r : Result (SourceParts × List Pair) Rule) → edited d.source d.pairs edit ≡ r
    → AreMade d.source d.pairs → IsReadable s → IsReadable (drafted s keys r).next
drafted-readable s d keys edit (Ok made) e m h = record { faultless = h.faultless; made = h.made; draft = edit-made d.source d.pairs edit made e m }
drafted-readable s d keys edit (Err rule) e m h = h

edit-readable : (b : Option Draft) (s : SessionState) (edit : Edit) → IsDraftMade b → IsReadable s → IsReadable (edit_in b s edit).next
edit-readable None s edit m h = taken-readable s edit (edited s.source s.pairs edit) refl h
edit-readable (Some d) s edit m h = drafted-readable s d (d.keys ++ named edit) edit (edited d.source d.pairs edit) refl m h

begin-readable : (b : Option Draft) (s : SessionState) → IsReadable s → IsReadable (begin_in b s).next
begin-readable None s h = record { faultless = h.faultless; made = h.made; draft = h.made }
begin-readable (Some d) s h = h

commit-readable : (b : Option Draft) (s : SessionState) → IsDraftMade b → IsReadable s → IsReadable (commit_in b s).next
commit-readable None s m h = h
commit-readable (Some d) s m h = judged-readable s (d.source, d.pairs) (source_check d.source) refl m h

abort-readable : (b : Option Draft) (s : SessionState) → IsReadable s → IsReadable (abort_in b s).next
abort-readable None s h = h
abort-readable (Some d) s h = alone-readable s h

noted-readable : (s : SessionState) (kept : Option Refused) → IsReadable s → IsReadable (record s { refused = kept })
noted-readable s kept h = record { faultless = h.faultless; made = h.made; draft = h.draft }

performed-readable : (s : SessionState) (command : SessionCommand) → IsReadable s → IsReadable (outcome s command).next
unfolding outcome
performed-readable s (commands.Edit edit) h = edit-readable s.batch s edit h.draft h
performed-readable s (commands.Print print) h = h
performed-readable s (commands.Show show) h = h
performed-readable s commands.Begin h = begin-readable s.batch s h
performed-readable s commands.Commit h = commit-readable s.batch s h.draft h
performed-readable s commands.Abort h = abort-readable s.batch s h
performed-readable s (commands.Broken rule) h = h

pub keeps_readable : KeepsReadable
keeps_readable = after-answer IsReadable alone-readable noted-readable performed-readable

pub reads_back : ReadsBack
reads_back s h = (source_again s.source h.made.0 (counts_checked s.source h.faultless), kern_again s.pairs h.made.1)

-- ---- no print tells a fault

tells-none : (r : Result (List ℕ) Fault) → (file : List ℕ) × (r ≡ Ok file) → TellsNoFault (file_answer r)
tells-none r file = rw file.1 tt

blocks-tell-none : (s : SessionState) (size : Option ℕ) → IsReadable s → TellsNoFault (blocks_answer s size)
blocks-tell-none s None h = tt
blocks-tell-none s (Some size) h = let back = reads_back s h in tells-none _ (blocks_there s h.faultless back.0 back.1 size)

pub prints_without_fault : PrintsWithoutFault
prints_without_fault s prints.Source h = tt
prints_without_fault s prints.Kern h = tt
prints_without_fault s prints.Pfb h = let back = reads_back s h in tells-none _ (pfb_there s h.faultless back.0 back.1)
prints_without_fault s (prints.Blocks number) h = blocks-tell-none s (block_size number) h
prints_without_fault s prints.Pfa h = let back = reads_back s h in tells-none _ (pfa_there s h.faultless back.0 back.1)
prints_without_fault s prints.Afm h = let back = reads_back s h in tells-none _ (metrics_there s h.faultless back.0 back.1)
prints_without_fault s prints.Uses h = let back = reads_back s h in tells-none _ (uses_there s h.faultless back.0 back.1)

-- ---- no query tells a fault

found-tells-none : (r : Result (Option (List ℕ)) Fault) (found : Option (List ℕ)) → r ≡ Ok found → TellsNoFault (query_answer r)
found-tells-none r None e = rw e tt
found-tells-none r (Some text) e = rw e tt

outline-there : (s : SourceParts) (name : List ℕ) → source_check s ≡ Ok tt → (found : Option (List ℕ)) × (source_outline s name ≡ Ok found)
outline-there s name checked =
    elim (cases_Bool (list_any (is_glyph name) s.items)) [
      | inl is ↦ let made = glyph-shown s name checked is in (Some (outline_text made.segments), made.shown)
      | inr other ↦ (None, other-shown s name checked other)
    ]

pub shows_without_fault : ShowsWithoutFault
shows_without_fault s (shows.Glyph name) h = found-tells-none _ _ (asked_scratch (glyph_text name) s (reads_back s h).0)
shows_without_fault s (shows.Subr number) h = found-tells-none _ _ (asked_scratch (subr_text number) s (reads_back s h).0)
shows_without_fault s (shows.Metrics name) h =
    let back = reads_back s h in
    let line = metrics_line_there s h.faultless back.0 back.1 name in
    found-tells-none _ line.0 line.1
shows_without_fault s (shows.Outline name) h =
    let outline = outline-there s.source name h.faultless in
    found-tells-none _ outline.0 (outline_scratch s name (reads_back s h).0 ∙ outline.1)
shows_without_fault s shows.Refusal h = tt
shows_without_fault s shows.Encoding h = tells-none _ (encoding_text s.source, asked_scratch encoding_text s (reads_back s h).0)
