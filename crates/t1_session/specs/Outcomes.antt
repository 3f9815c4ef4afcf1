-- What a call that performs a command answers, and what it leaves.
use Rattle.std.specs.Prelude.{◌≡◌, ℕ, Bool, true, List, Option, Some, None, option_map, Result, Ok, Err}
use Rattle.std.specs.declared.alloc.Global.{Global}
use Rattle.std.specs.declared.vec.Vec.{Vec}
use Rattle.t1_frac.specs.declared.fault.Fault.{Fault}
use Rattle.t1_frac.specs.declared.fault.Refusal.{Refusal}
use Rattle.t1_frac.specs.declared.fault.Refusal.TheVariants as refusals
use Rattle.t1_source.specs.declared.edit.Cause.{Cause}
use Rattle.t1_source.specs.declared.edit.Cause.TheVariants as causes
use Rattle.t1_code.specs.declared.parts.OutError.{OutError}
use Rattle.t1_code.specs.declared.parts.OutError.TheVariants as out
use Rattle.t1_commands.specs.declared.answer.Answer.TheVariants.{Accepted, Broken, Faulty}
use Rattle.t1_commands.specs.declared.command.SessionCommand.{SessionCommand}
use Rattle.t1_commands.specs.Answers.{Performed}
use Rattle.t1_session.specs.declared.refused.Refused.TheVariants as kinds
use Rattle.t1_session.specs.Machine.{keeping, outcome, perform, may_want_memory, after_want}
use Rattle.t1_session.specs.State.{SessionState}

-- profile: an edit whose source is refused is refused for the same reason
abbrev pub refused_source : Refusal → Cause
refused_source (refusals.Fault fault) = causes.Fault fault
refused_source refusals.Memory = causes.Memory

-- profile: what was to be performed was accepted; or refused, by a rule, of which no more than the rule is kept, or by a fault; or
-- memory ran out, where it may, and left this state
abbrev pub TookNoted : {T : Type 0} → SessionState → Performed SessionState → Bool → SessionState → Result T Cause → SessionState → Type 0
TookNoted old p may_want want (Ok done) new = (p.answer ≡ Accepted) × (new ≡ p.next)
TookNoted old p may_want want (Err (causes.Rule rule)) new =
    (p.answer ≡ Broken rule) × (new ≡ p.next) × (new ≡ record old { refused = Some (kinds.Rule rule) })
TookNoted old p may_want want (Err (causes.Fault fault)) new = (p.answer ≡ Faulty fault) × (new ≡ p.next)
TookNoted old p may_want want (Err causes.Memory) new = (may_want ≡ true) × (new ≡ want)

-- profile: a command was performed
abbrev pub Takes : {T : Type 0} → SessionState → SessionCommand → Result T Cause → SessionState → Type 0
Takes old c result new = TookNoted old (perform old c) (may_want_memory old c) (after_want old c) result new

-- profile: the same, of a call that keeps nothing of an edit whose source has a fault
abbrev pub TakesOrDrops : {T : Type 0} → SessionState → SessionCommand → Result T Cause → SessionState → Type 0
TakesOrDrops old c result new = TookNoted old (keeping None (outcome old c)) (may_want_memory old c) (after_want old c) result new

-- profile: the same, of a call that hands what it took back with each refusal
abbrev pub TakesOrReturns : {T E : Type 0} → SessionState → SessionCommand → E → Result T (Cause × E) → SessionState → Type 0
TakesOrReturns {T} old c given (Ok done) new = TakesOrDrops {T = T} old c (Ok done) new
TakesOrReturns {T} old c given (Err back) new = TakesOrDrops {T = T} old c (Err back.0) new × (back.1 ≡ given)

-- profile: a print that isn't done answers that a write failed or that memory ran out, and no fault
abbrev pub AnswersNoFault : {T : Type 0} → Result T OutError → Type 0
AnswersNoFault (Ok done) = Unit {0}
AnswersNoFault (Err out.Write) = Unit {0}
AnswersNoFault (Err (out.Fault fault)) = ⊥
AnswersNoFault (Err out.Memory) = Unit {0}

-- profile: a query answers what a definition gives, or that memory ran out
abbrev pub Finds : {E : Type 0} → Result (Option (Vec ℕ Global)) E → Result (Option (List ℕ)) Fault → Type 0
Finds (Ok found) given = given ≡ Ok (option_map (λ text. text.items) found)
Finds (Err e) given = Unit {0}
