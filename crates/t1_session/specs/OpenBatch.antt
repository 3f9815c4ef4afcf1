-- The batch that a session has open.
use Rattle.std.specs.Prelude.{◌≡◌, ℕ, Bool, true, false, List, [], Option, Some, None, option_map, Result, Ok, Err}
use Rattle.std.specs.Result.{result_ok}
use Rattle.t1_parts.specs.SourceParts.{SourceParts}
use Rattle.t1_pairs.specs.declared.pairs.Pair.{Pair}
use Rattle.t1_source.specs.declared.edit.Edit.{Edit}
use Rattle.t1_source.specs.declared.edit.Cause.{Cause}
use Rattle.t1_source.specs.Editing.{edited}
use Rattle.t1_source.specs.EditOutcomes.{ReportsRule}
use Rattle.t1_cache.specs.EditKeys.{named}
use Rattle.t1_held.specs.Batch.{Draft, DraftedBatch}
use Rattle.t1_held.specs.Drafting.{Drafts, IsDraftOf}
use Rattle.t1_session.specs.declared.open_batch.OpenBatch.{OpenBatch}
use Rattle.t1_session.specs.declared.open_batch.OpenBatch.TheVariants as batches

-- profile, batches: a batch of one edit, which makes this source and these pairs
abbrev pub draft_of_edit : Edit → SourceParts × List Pair → Draft
draft_of_edit edit made = record { source = made.0; pairs = made.1; keys = named edit }

-- profile, batches: the batch that is open on a source and its pairs: none; that of no edit; that of one edit; or one that has
-- copies of its own
abbrev pub open_draft : SourceParts → List Pair → OpenBatch → Option Draft
open_draft s k batches.Closed = None
open_draft s k batches.Unedited = Some (record { source = s; pairs = k; keys = [] })
open_draft s k (batches.Single edit near) = option_map (draft_of_edit edit) (result_ok (edited s k edit))
open_draft s k (batches.Drafted batch) = Some batch.draft

-- word: a single edit keeps the edit rules, and the copies of a batch are what its edits made of this source
abbrev pub IsOpenOn : SourceParts → List Pair → OpenBatch → Type 0
IsOpenOn s k (batches.Single edit near) = (made : SourceParts × List Pair) × (edited s k edit ≡ Ok made)
IsOpenOn s k (batches.Drafted batch) = IsDraftOf s batch
IsOpenOn s k batch = Unit {0}

-- word: it has no edits
abbrev pub is_unedited : OpenBatch → Bool
is_unedited batches.Unedited = true
is_unedited batch = false

-- word: it has copies of its own
abbrev pub is_drafted : OpenBatch → Bool
is_drafted (batches.Drafted batch) = true
is_drafted batch = false

-- word: a batch of one edit was opened, or the edit breaks a rule, or memory ran out
abbrev pub OpensWith : Edit → SourceParts → List Pair → Result OpenBatch Cause → Type 0
OpensWith edit s k (Ok batch) = (made : SourceParts × List Pair) × (edited s k edit ≡ Ok made) × ((near : ℕ) × (batch ≡ batches.Single edit near))
OpensWith edit s k (Err cause) = ReportsRule cause (edited s k edit)

-- word: a batch is that of one edit, where the edit keeps the edit rules
abbrev pub IsMadeOf : Edit → SourceParts → List Pair → DraftedBatch → Type 0
IsMadeOf edit s k batch =
    IsDraftOf s batch × ((made : SourceParts × List Pair) → edited s k edit ≡ Ok made → batch.draft ≡ draft_of_edit edit made)

-- word: an edit was made in the batch that is open on a source and its pairs, or refused
pub record DraftsOn {T : Type 0} (s : SourceParts) (k : List Pair) (old : OpenBatch) (edit : Edit) (result : Result T Cause) (new : OpenBatch) : Type 0 where
  pub is_open : IsOpenOn s k new
  pub drafts : (was : Draft) → open_draft s k old ≡ Some was → (now : Draft) × (open_draft s k new ≡ Some now) × Drafts was edit result now
