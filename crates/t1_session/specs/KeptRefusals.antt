-- What is kept of a refusal.
use Rattle.std.specs.Prelude.{List, Option, Some, None, Result, Ok, Err}
use Rattle.t1_frac.specs.declared.fault.Fault.{Fault}
use Rattle.t1_parts.specs.SourceParts.{SourceParts}
use Rattle.t1_pairs.specs.declared.pairs.Pair.{Pair}
use Rattle.t1_source.specs.declared.edit.Cause.{Cause}
use Rattle.t1_source.specs.declared.edit.Cause.TheVariants as causes
use Rattle.t1_source.specs.declared.edit.Edit.{Edit}
use Rattle.t1_source.specs.declared.edit.Rule.{Rule}
use Rattle.t1_source.specs.Editing.{edited}
use Rattle.t1_font.specs.SourceChecks.{source_check}
use Rattle.t1_refusal.specs.Telling.{fault_of}
use Rattle.t1_rerun.specs.EntryChanges.{IsMadeByEdit}
use Rattle.t1_rerun.specs.Right.{IsRight}
use Rattle.t1_held.specs.declared.held.Held.{Held}
use Rattle.t1_session.specs.declared.refused.Refused.{Refused}
use Rattle.t1_session.specs.declared.refused.Refused.TheVariants as kinds

-- word, refusals: what is kept of a refusal by what a call answers
abbrev pub refused_after : {T : Type 0} → Option Refused → Option Refused → Result T Cause → Option Refused
refused_after faulty before (Ok done) = None
refused_after faulty before (Err (causes.Rule rule)) = Some (kinds.Rule rule)
refused_after faulty before (Err (causes.Fault fault)) = faulty
refused_after faulty before (Err causes.Memory) = before

-- word, refusals: the call answers no fault, or this holds
abbrev pub OnFault : {T : Type 0} → Result T Cause → Type 0 → Type 0
OnFault (Err (causes.Fault fault)) X = X
OnFault result X = Unit {0}

-- word, refusals: the first fault of an edited source
abbrev pub fault_of_edited : Result (SourceParts × List Pair) Rule → Option Fault
fault_of_edited (Ok made) = fault_of (source_check made.0)
fault_of_edited (Err rule) = None

-- word, refusals: an edit made this source of one of which this is held
pub record IsEditOfHeld (edit : Edit) (edited : SourceParts) (held : Held) : Type 0 where
  pub old : SourceParts
  pub right : IsRight old held.records
  pub made : IsMadeByEdit edit old edited
