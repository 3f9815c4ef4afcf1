-- What a session keeps of its source.
use Rattle.t1_parts.specs.SourceParts.{SourceParts}
use Rattle.t1_charstrings.specs.Kept.{AreEncrypted}
use Rattle.t1_font.specs.Lengths.{IsPrivateLen}
use Rattle.t1_rerun.specs.Right.{IsRight}
use Rattle.t1_held.specs.declared.held.Held.{Held}

-- word: the records, the charstrings and the length of the private text are those of the source from scratch
pub record IsHeld (s : SourceParts) (h : Held) : Type 0 where
  pub right : IsRight s h.records
  pub encrypted : AreEncrypted s h.charstrings
  pub len : IsPrivateLen s h.private_len
