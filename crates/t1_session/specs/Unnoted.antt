-- What a call leaves before what was refused is noted, and what is kept of a batch that is refused.
use Rattle.std.specs.Prelude.{◌≡◌, Bool, true, Option, Some, None, Result, Ok, Err}
use Rattle.t1_frac.specs.declared.fault.Refusal.{Refusal}
use Rattle.t1_frac.specs.declared.fault.Refusal.TheVariants as refusals
use Rattle.t1_parts.specs.SourceParts.{SourceParts}
use Rattle.t1_source.specs.declared.edit.Cause.{Cause}
use Rattle.t1_source.specs.declared.edit.Cause.TheVariants as causes
use Rattle.t1_commands.specs.declared.answer.Answer.TheVariants.{Accepted, Broken, Faulty}
use Rattle.t1_commands.specs.declared.command.SessionCommand.{SessionCommand}
use Rattle.t1_commands.specs.Answers.{Performed}
use Rattle.t1_session.specs.declared.refused.Refused.{Refused}
use Rattle.t1_session.specs.declared.refused.Refused.TheVariants as kinds
use Rattle.t1_session.specs.Machine.{outcome, may_want_memory, after_want}
use Rattle.t1_session.specs.State.{SessionView, SessionState}

-- word: what was to be performed was accepted; or refused, by a rule, which changes nothing, or by a fault; or memory
-- ran out, where it may, and left this state; what was refused before is kept
abbrev pub Took : {T : Type 0} → SessionState → Performed SessionState → Bool → SessionState → Result T Cause → SessionState → Type 0
Took old p may_want want (Ok done) new = (p.answer ≡ Accepted) × (new ≡ p.next)
Took old p may_want want (Err (causes.Rule rule)) new = (p.answer ≡ Broken rule) × (p.next ≡ old) × (new ≡ old)
Took old p may_want want (Err (causes.Fault fault)) new = (p.answer ≡ Faulty fault) × (new ≡ p.next)
Took old p may_want want (Err causes.Memory) new = (may_want ≡ true) × (new ≡ want)

-- word: the same, of a command
abbrev pub TakesUnnoted : {T : Type 0} → SessionState → SessionCommand → Result T Cause → SessionState → Type 0
TakesUnnoted old c result new = Took old (outcome old c) (may_want_memory old c) (after_want old c) result new

-- word: the session with this kept of a refusal
abbrev pub with_refused : SessionView → Option Refused → SessionView
with_refused v kept = record v { state = record v.state { refused = kept } }

-- word: what is kept of a batch whose source is refused, where that has a fault
abbrev pub faulty_batch : Refusal → SourceParts → Option Refused
faulty_batch (refusals.Fault fault) made = Some (kinds.Batch made)
faulty_batch refusals.Memory made = None
