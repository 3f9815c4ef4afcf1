-- A source of which edits were prepared.
use Rattle.std.specs.Prelude.{◌≡◌, ℕ, Ok, Option, None, Some}
use Rattle.t1_parts.specs.SourceParts.{SourceParts}
use Rattle.t1_source.specs.declared.editing.Change.{Change}
use Rattle.t1_source.specs.Changes.{IsFor}
use Rattle.t1_source.specs.EditedSource.{EditedParts}
use Rattle.t1_source.specs.WellFormed.{IsWellFormed}
use Rattle.t1_font.specs.Assembly.{file_check}
use Rattle.t1_font.specs.Lengths.{IsPrivateLen}
use Rattle.t1_charstrings.specs.Beside.{IsKeptBeside}

-- word, edits: the change can be made of the source, which has its files, and whose private text is so long
pub record IsPreparedFor (change : Change) (s : SourceParts) (len : ℕ) : Type 0 where
  pub fits : IsFor change s
  pub file : file_check s ≡ Ok tt
  pub known : IsPrivateLen s len

-- word, edits: a source that has its files, and whose private text is so long, with what a batch changed beside its
-- charstrings
pub record IsCountedFrom (s : SourceParts) (len : ℕ) (made : SourceParts) (beside : Option ℕ) : Type 0 where
  pub well : IsWellFormed s
  pub file : file_check s ≡ Ok tt
  pub known : IsPrivateLen s len
  pub kept : IsKeptBeside s len made beside

-- word, edits: a change that is still to be made is one of the source that is edited, of which so much is known; where the
-- edited source stands, as a batch makes it, as much is known of both
abbrev pub IsMadeBy : Option Change → SourceParts → ℕ → Option ℕ → SourceParts → Type 0
IsMadeBy (Some change) s len beside source = (source ≡ s) × IsPreparedFor change s len
IsMadeBy None s len beside source = IsCountedFrom s len source beside

-- word, edits: the edited source is made of the source, whose private text is so long
abbrev pub IsMadeOf : SourceParts → ℕ → Option ℕ → EditedParts → Type 0
IsMadeOf s len beside made = IsMadeBy made.change s len beside made.source
