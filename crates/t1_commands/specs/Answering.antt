-- What outcomes of a command are answered.
use Rattle.std.specs.Prelude.{◌≡◌, ℕ, List, Option, Result, Ok, Err}
use Rattle.t1_code.specs.Counted.{Tally, WritesAll, WritesFront}
use Rattle.t1_code.specs.declared.parts.OutError.{OutError}
use Rattle.t1_code.specs.declared.parts.OutError.TheVariants as out
use Rattle.t1_source.specs.declared.edit.Cause.{Cause}
use Rattle.t1_source.specs.declared.edit.Cause.TheVariants as causes
use Rattle.t1_commands.specs.declared.answer.Answer.{Answer}
use Rattle.t1_commands.specs.declared.answer.Answer.TheVariants.{Accepted, Broken, Faulty}
use Rattle.t1_commands.specs.AnswerTexts.{answer_text}

-- word, answers: a call gave this answer, and memory didn't run out
abbrev pub Says : {E : Type 0} → Answer → Result Answer E → Type 0
Says wanted (Ok answer) = answer ≡ wanted
Says wanted (Err e) = ⊥

-- word, answers: a call gave no answer, since memory ran out
abbrev pub WantsMemory : {E : Type 0} → Result Answer E → Type 0
WantsMemory (Ok answer) = ⊥
WantsMemory (Err e) = Unit {0}

-- word, answers: what was performed is answered by ok, the rule or the fault
abbrev pub Answers : {T E : Type 0} → Result T Cause → Result Answer E → Type 0
Answers (Ok done) result = Says Accepted result
Answers (Err (causes.Rule rule)) result = Says (Broken rule) result
Answers (Err (causes.Fault fault)) result = Says (Faulty fault) result
Answers (Err causes.Memory) result = WantsMemory result

-- word, answers: the text of an answer went out, or a failed write cut it short
abbrev pub SendsText : {W T : Type 0} → (W → Option (List ℕ)) → Tally W → Tally W → List ℕ → Result T OutError → Type 0
SendsText contents before after text (Ok done) = WritesAll contents before after text
SendsText contents before after text (Err out.Write) = WritesFront contents before after text
SendsText contents before after text (Err (out.Fault fault)) = ⊥
SendsText contents before after text (Err out.Memory) = ⊥

-- word, answers: what was performed was answered; nothing was written where memory ran out
abbrev pub ReportsPerformed : {W T E : Type 0} → (W → Option (List ℕ)) → Tally W → Tally W → Result T Cause → Result E OutError → Type 0
ReportsPerformed contents before after (Ok done) result = SendsText contents before after (answer_text Accepted) result
ReportsPerformed contents before after (Err (causes.Rule rule)) result = SendsText contents before after (answer_text (Broken rule)) result
ReportsPerformed contents before after (Err (causes.Fault fault)) result = SendsText contents before after (answer_text (Faulty fault)) result
ReportsPerformed contents before after (Err causes.Memory) result = (after ≡ before) × (result ≡ Err out.Memory)
