-- What the commit of a batch leaves.
use Rattle.std.specs.Prelude.{◌≡◌, ◌⊎◌, true, [], Option, Some, Result, Err}
use Rattle.t1_parts.specs.SourceParts.{SourceParts}
use Rattle.t1_source.specs.declared.edit.Cause.{Cause}
use Rattle.t1_source.specs.declared.edit.Cause.TheVariants as causes
use Rattle.t1_font.specs.SourceChecks.{source_check}
use Rattle.t1_held.specs.Batch.{Draft}
use Rattle.t1_session.specs.declared.refused.Refused.{Refused}
use Rattle.t1_session.specs.declared.refused.Refused.TheVariants as kinds
use Rattle.t1_session.specs.KeptRefusals.{OnFault}
use Rattle.t1_session.specs.Machine.{judged}
use Rattle.t1_session.specs.RerunsByTest.{RerunsByTest}
use Rattle.t1_session.specs.State.{SessionState, SessionView}
use Rattle.t1_session.specs.Unnoted.{Took}

-- word: the draft of a batch without edits
abbrev pub draft_of_none : SessionState → Draft
draft_of_none s = record { source = s.source; pairs = s.pairs; keys = [] }

-- word: a session in which no batch is open took the source and the pairs of this one, or refused them
pub record Commits {T : Type 0} (d : Draft) (old : SessionView) (result : Result T Cause) (kept : Option Refused) (new : SessionView) : Type 0 where
  pub took : Took old.state (judged old.state (d.source, d.pairs) (source_check d.source)) true old.state result new.state
  pub faulty : OnFault result (kept ≡ Some (kinds.Batch d.source))
  pub runs : RerunsByTest (Some (record { keys = d.keys; source = d.source })) old result new

-- word: a batch of one edit, whose edit is refused for this cause, is refused for it, or since memory ran out; with the edited
-- source where that has a fault
pub record RefusesSingle (made : SourceParts) (cause given : Cause) (kept : Option Refused) : Type 0 where
  pub same : (given ≡ cause) ⊎ (given ≡ causes.Memory)
  pub faulty : OnFault {T = Unit {0}} (Err given) (kept ≡ Some (kinds.Batch made))
