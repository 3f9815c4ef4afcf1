-- A source that edits make.
use Rattle.std.specs.Prelude.{Bool, not, nat_eq, Option, Some, None}
use Rattle.t1_parts.specs.LenIV.{lead}
use Rattle.t1_parts.specs.SourceParts.{SourceParts}
use Rattle.t1_source.specs.declared.editing.Change.{Change}
use Rattle.t1_source.specs.Changes.{is_entry_changed, made_after, IsFor}
use Rattle.t1_source.specs.WellFormed.{IsWellFormed}

-- word, edits: a source, and at most one change that is still to be made of it
pub record EditedParts : Type 0 where
  pub source : SourceParts
  pub change : Option Change

-- word, edits: the source after the change, where there is one
abbrev pub with_change : Option Change → SourceParts → SourceParts
with_change None s = s
with_change (Some change) s = made_after change s

-- word, edits: the source that the edits make
abbrev pub made_of : EditedParts → SourceParts
made_of e = with_change e.change e.source

-- word, edits: the source is well formed, and the change, where there is one, can be made of it
abbrev pub CanBeMade : Option Change → SourceParts → Type 0
CanBeMade None s = IsWellFormed s
CanBeMade (Some change) s = IsFor change s

-- word, lenIV: whether a change may have set it, where it changes another item than an entry; without a change, where the
-- number is another one than before
abbrev pub may_have_set : Option Change → SourceParts → SourceParts → Bool
may_have_set None s before = not (nat_eq (lead s) (lead before))
may_have_set (Some change) s before = not (is_entry_changed change s)

-- word, lenIV: whether the edits of a source may have set it
abbrev pub may_set_lead : SourceParts → EditedParts → Bool
may_set_lead before e = may_have_set e.change e.source before
