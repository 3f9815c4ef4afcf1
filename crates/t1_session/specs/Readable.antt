-- What is true of every state that a session reaches: its texts read back, and no print or query of it answers a fault.
use Rattle.std.specs.Prelude.{◌≡◌, ℕ, Bool, true, List, Option, Some, None, Ok}
use Rattle.t1_parts.specs.Printing.{text}
use Rattle.t1_parts.specs.Reading.{reads}
use Rattle.t1_parts.specs.SourceParts.{SourceParts}
use Rattle.t1_pairs.specs.declared.pairs.Pair.{Pair}
use Rattle.t1_pairs.specs.Kerning.{are_pairs, kern, pairs}
use Rattle.t1_source.specs.WellFormed.{IsWellFormed}
use Rattle.t1_font.specs.SourceChecks.{source_check}
use Rattle.t1_held.specs.Batch.{Draft}
use Rattle.t1_commands.specs.declared.answer.Answer.{Answer}
use Rattle.t1_commands.specs.declared.answer.Answer.TheVariants as answers
use Rattle.t1_commands.specs.declared.command.SessionCommand.{SessionCommand}
use Rattle.t1_commands.specs.declared.print.Print.{Print}
use Rattle.t1_commands.specs.declared.show.Show.{Show}
use Rattle.t1_commands.specs.Answers.{answer_to}
use Rattle.t1_session.specs.Machine.{machine, opened, printed, scratch, shown_answer}
use Rattle.t1_session.specs.State.{SessionState}

-- profile: the source of a state has no fault
abbrev pub IsFaultless : SessionState → Type 0
IsFaultless s = source_check s.source ≡ Ok tt

-- profile: a session opens without a fault
abbrev pub OpensFaultless : Type 0
OpensFaultless = (source : SourceParts) (kerning : List Pair) (s : SessionState) → opened source kerning ≡ Ok s → IsFaultless s

-- profile: a state without a fault stays so through every command, also one for which memory ran out
abbrev pub KeepsFaultless : Type 0
KeepsFaultless = (s : SessionState) (command : SessionCommand) (mark : Bool) → IsFaultless s → IsFaultless (answer_to machine s command mark).next

-- profile: a source and pairs are as reading and edits make them
abbrev pub AreMade : SourceParts → List Pair → Type 0
AreMade source kerning = IsWellFormed source × (are_pairs kerning ≡ true)

-- profile: the source and the pairs of the batch that is open are as reading and edits make them
abbrev pub IsDraftMade : Option Draft → Type 0
IsDraftMade None = Unit {0}
IsDraftMade (Some draft) = AreMade draft.source draft.pairs

-- profile: a state without a fault, all of it as reading and edits make it
pub record IsReadable (s : SessionState) : Type 0 where
  pub faultless : IsFaultless s
  pub made : AreMade s.source s.pairs
  pub draft : IsDraftMade s.batch

-- profile: a session of two texts opens readable
abbrev pub OpensReadable : Type 0
OpensReadable = (source kerning : List ℕ) (s : SessionState) → scratch source kerning ≡ Ok s → IsReadable s

-- profile: a readable state stays so through every command, also one for which memory ran out
abbrev pub KeepsReadable : Type 0
KeepsReadable = (s : SessionState) (command : SessionCommand) (mark : Bool) → IsReadable s → IsReadable (answer_to machine s command mark).next

-- profile: what a readable state prints reads back as it
abbrev pub ReadsBack : Type 0
ReadsBack = (s : SessionState) → IsReadable s → (reads (text s.source) ≡ Ok s.source) × (pairs (kern s.pairs) ≡ Ok s.pairs)

-- profile: an answer tells no fault
abbrev pub TellsNoFault : Answer → Type 0
TellsNoFault (answers.Faulty fault) = ⊥
TellsNoFault answer = Unit {0}

-- profile: no print of a readable state tells a fault
abbrev pub PrintsWithoutFault : Type 0
PrintsWithoutFault = (s : SessionState) (print : Print) → IsReadable s → TellsNoFault (printed s print)

-- profile: no query of a readable state tells a fault
abbrev pub ShowsWithoutFault : Type 0
ShowsWithoutFault = (s : SessionState) (show : Show) → IsReadable s → TellsNoFault (shown_answer s show)
