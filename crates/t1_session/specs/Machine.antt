-- The commands of a session.
use Rattle.std.specs.Prelude.{◌++◌, ℕ, Bool, true, false, not, List, [], Option, Some, None, is_some, option_map, Result, Ok, Err}
use Rattle.t1_frac.specs.declared.fault.Fault.{Fault}
use Rattle.t1_frac.specs.Outcome.{◌>>=◌}
use Rattle.t1_parts.specs.SourceParts.{SourceParts}
use Rattle.t1_parts.specs.Reading.{reads}
use Rattle.t1_parts.specs.Printing.{text}
use Rattle.t1_pairs.specs.declared.pairs.Pair.{Pair}
use Rattle.t1_source.specs.declared.edit.Edit.{Edit}
use Rattle.t1_source.specs.declared.edit.Rule.{Rule}
use Rattle.t1_source.specs.declared.edit.Rule.TheVariants.{E1, E4, E11, E12}
use Rattle.t1_pairs.specs.Kerning.{pairs, kern}
use Rattle.t1_source.specs.Editing.{edited}
use Rattle.t1_font.specs.SourceChecks.{source_check}
use Rattle.t1_run.specs.Run.{Key}
use Rattle.t1_cache.specs.EditKeys.{named}
use Rattle.t1_held.specs.Batch.{Draft}
use Rattle.t1_commands.specs.declared.print.Print.{Print}
use Rattle.t1_commands.specs.declared.print.Print.TheVariants as prints
use Rattle.t1_commands.specs.declared.show.Show.{Show}
use Rattle.t1_commands.specs.declared.show.Show.TheVariants as shows
use Rattle.t1_commands.specs.declared.answer.Answer.{Answer}
use Rattle.t1_commands.specs.declared.answer.Answer.TheVariants.{Accepted, Broken, Faulty, Data}
use Rattle.t1_commands.specs.declared.command.SessionCommand.{SessionCommand}
use Rattle.t1_commands.specs.declared.command.SessionCommand.TheVariants as commands
use Rattle.t1_commands.specs.Blocks.{block_size}
use Rattle.t1_commands.specs.Answers.{Performed, Machine}
use Rattle.t1_session.specs.FromScratch.{blocks_from_scratch, encoding_from_scratch, glyph_from_scratch, metrics_from_scratch, metrics_line_from_scratch, outline_from_scratch, pfa_from_scratch, pfb_from_scratch, subr_from_scratch, uses_from_scratch}
use Rattle.t1_session.specs.Refusing.{refused_text}
use Rattle.t1_session.specs.State.{SessionState}
use Rattle.t1_session.specs.declared.refused.Refused.{Refused}
use Rattle.t1_session.specs.declared.refused.Refused.TheVariants as kinds

-- profile: the state without its batch
abbrev pub without_batch : SessionState → SessionState
without_batch s = record s { batch = None }

-- profile: the state with this source and these pairs, and no batch
abbrev pub holding : SessionState → SourceParts × List Pair → SessionState
holding s made = record s { source = made.0; pairs = made.1; batch = None }

-- profile: a command that changes nothing
abbrev pub stays : SessionState → Answer → Performed SessionState
stays s answer = record { answer = answer; next = s }

-- ---- edits

-- profile, edits: an edited source without a fault becomes the session's, with its pairs; else the session is as before,
-- and a batch is closed either way
abbrev pub judged : SessionState → SourceParts × List Pair → Result (Unit {0}) Fault → Performed SessionState
judged s made (Ok checked) = record { answer = Accepted; next = holding s made }
judged s made (Err fault) = record { answer = Faulty fault; next = without_batch s }

-- profile, edits: an edit outside a batch is judged by the edit rules, then by the first fault of the edited source
abbrev pub taken : SessionState → Result (SourceParts × List Pair) Rule → Performed SessionState
taken s (Ok made) = judged s made (source_check made.0)
taken s (Err rule) = stays s (Broken rule)

-- ---- batches

-- profile, batches: an open batch with this source, these pairs, and these keys of entries that its edits name
abbrev pub drafting : SourceParts → List Pair → List Key → Option Draft
drafting source pairs keys = Some (record { source = source; pairs = pairs; keys = keys })

-- profile, batches: an edit in a batch is judged by the edit rules alone, on the batch's source and pairs; the key of the entry that
-- it names is noted
abbrev pub drafted : SessionState → List Key → Result (SourceParts × List Pair) Rule → Performed SessionState
drafted s keys (Ok made) = record { answer = Accepted; next = record s { batch = drafting made.0 made.1 keys } }
drafted s keys (Err rule) = stays s (Broken rule)

-- profile, batches: an edit goes into the batch that is open; where none is, it is judged at once
abbrev pub edit_in : Option Draft → SessionState → Edit → Performed SessionState
edit_in None s edit = taken s (edited s.source s.pairs edit)
edit_in (Some d) s edit = drafted s (d.keys ++ named edit) (edited d.source d.pairs edit)

-- profile, batches: E11 where one is open already
abbrev pub begin_in : Option Draft → SessionState → Performed SessionState
begin_in None s = record { answer = Accepted; next = record s { batch = drafting s.source s.pairs [] } }
begin_in (Some d) s = stays s (Broken E11)

-- profile, batches: the edits of a batch are judged once, together; E12 where none is open
abbrev pub commit_in : Option Draft → SessionState → Performed SessionState
commit_in None s = stays s (Broken E12)
commit_in (Some d) s = judged s (d.source, d.pairs) (source_check d.source)

-- profile, batches: the edits of a batch are dropped; E12 where none is open
abbrev pub abort_in : Option Draft → SessionState → Performed SessionState
abort_in None s = stays s (Broken E12)
abort_in (Some d) s = record { answer = Accepted; next = without_batch s }

-- ---- prints

-- profile: what a print or a query of a text is answered; the source of a session has no fault
abbrev pub file_answer : Result (List ℕ) Fault → Answer
file_answer (Ok file) = Data file
file_answer (Err fault) = Faulty fault

-- profile, session commands: the PFB file from scratch in segments of this size; E4 where there can be none
abbrev pub blocks_answer : SessionState → Option ℕ → Answer
blocks_answer s None = Broken E4
blocks_answer s (Some size) = file_answer (blocks_from_scratch size s)

-- profile, session commands: what a print shows: the printed source, the printed pairs, and what reading, assembling and
-- measuring these two texts gives from scratch; in a batch, of the session as before it
abbrev pub printed : SessionState → Print → Answer
printed s prints.Source = Data (text s.source)
printed s prints.Kern = Data (kern s.pairs)
printed s prints.Pfb = file_answer (pfb_from_scratch s)
printed s (prints.Blocks number) = blocks_answer s (block_size number)
printed s prints.Pfa = file_answer (pfa_from_scratch s)
printed s prints.Afm = file_answer (metrics_from_scratch s)
printed s prints.Uses = file_answer (uses_from_scratch s)

-- ---- queries

-- profile: what a query is answered; E1 where there is no such glyph or Subr
abbrev pub found_answer : Option (List ℕ) → Answer
found_answer None = Broken E1
found_answer (Some text) = Data text

-- profile: the same, of a text from scratch; the source of a session has no fault
abbrev pub query_answer : Result (Option (List ℕ)) Fault → Answer
query_answer (Ok found) = found_answer found
query_answer (Err fault) = Faulty fault

-- profile, session commands: what a query shows, by what reading and measuring the printed source gives from scratch; in a
-- batch, of the session as before it
abbrev pub shown_answer : SessionState → Show → Answer
shown_answer s (shows.Glyph name) = query_answer (glyph_from_scratch name s)
shown_answer s (shows.Subr number) = query_answer (subr_from_scratch number s)
shown_answer s (shows.Metrics name) = query_answer (metrics_line_from_scratch name s)
shown_answer s (shows.Outline name) = query_answer (outline_from_scratch name s)
shown_answer s shows.Encoding = file_answer (encoding_from_scratch s)
shown_answer s shows.Refusal = Data (refused_text s.source s.pairs s.refused)

-- ---- all commands

-- profile, session commands: what a command is answered, and the state after it, with what was refused before
unfoldable pub outcome : SessionState → SessionCommand → Performed SessionState
outcome s (commands.Edit edit) = edit_in s.batch s edit
outcome s (commands.Print print) = stays s (printed s print)
outcome s (commands.Show show) = stays s (shown_answer s show)
outcome s commands.Begin = begin_in s.batch s
outcome s commands.Commit = commit_in s.batch s
outcome s commands.Abort = abort_in s.batch s
outcome s (commands.Broken rule) = stays s (Broken rule)

-- profile, refusals: what is kept of a refusal by its answer: nothing once a command is accepted, the rule, or this where the edited
-- source has a fault
abbrev pub refusal_kept : Option Refused → Option Refused → Answer → Option Refused
refusal_kept faulty before Accepted = None
refusal_kept faulty before (Broken rule) = Some (kinds.Rule rule)
refusal_kept faulty before (Faulty fault) = faulty
refusal_kept faulty before answer = before

-- profile, refusals: the state keeps what was refused
abbrev pub keeping : Option Refused → Performed SessionState → Performed SessionState
keeping faulty p = record { answer = p.answer; next = record p.next { refused = refusal_kept faulty p.next.refused p.answer } }

-- profile, refusals: the source of a batch, as it is refused
abbrev pub refused_batch : Option Draft → Option Refused
refused_batch batch = option_map (λ draft. kinds.Batch draft.source) batch

-- profile, refusals: an edit, a `begin`, a `commit` and an `abort` change what is kept of a refusal, and no other command does
abbrev pub noting_refusals : SessionState → SessionCommand → Performed SessionState → Performed SessionState
noting_refusals s (commands.Edit edit) p = keeping (Some (kinds.Edit edit)) p
noting_refusals s commands.Begin p = keeping None p
noting_refusals s commands.Commit p = keeping (refused_batch s.batch) p
noting_refusals s commands.Abort p = keeping None p
noting_refusals s command p = p

-- profile, session commands: what a command is answered, and the state after it
unfoldable pub perform : SessionState → SessionCommand → Performed SessionState
perform s command = noting_refusals s command (outcome s command)

-- profile, answers: which commands may run out of memory: edits, prints and queries, a `begin` outside a batch, a `commit` in one
abbrev pub may_want_memory : SessionState → SessionCommand → Bool
may_want_memory s (commands.Edit edit) = true
may_want_memory s (commands.Print print) = true
may_want_memory s (commands.Show show) = true
may_want_memory s commands.Begin = not (is_some s.batch)
may_want_memory s commands.Commit = is_some s.batch
may_want_memory s commands.Abort = false
may_want_memory s (commands.Broken rule) = false

-- profile, answers: out of memory leaves the state as it was, but for the batch of a `commit`, which is closed
abbrev pub after_want : SessionState → SessionCommand → SessionState
after_want s commands.Commit = without_batch s
after_want s _ = s

-- profile: the machine of a session
abbrev pub machine : Machine SessionState
machine = record { perform = perform; may_want_memory = may_want_memory; after_want = after_want }

-- ---- opening

-- profile: the state of a source and its pairs, no batch, and nothing refused
abbrev pub opening_state : SourceParts → List Pair → SessionState
opening_state source pairs = record { source = source; pairs = pairs; batch = None; refused = None }

-- profile: the state that a session of a source and its pairs opens with, or the source's first fault
abbrev pub opened : SourceParts → List Pair → Result SessionState Fault
opened source pairs = source_check source >>= λ checked. Ok (opening_state source pairs)

-- profile: the state that a session opens with, or the first fault of reading the source, of the pairs, of the source
unfoldable pub scratch : List ℕ → List ℕ → Result SessionState Fault
scratch source pair_lines = do
  parts ← reads source
  kerning ← pairs pair_lines
  opened parts kerning
