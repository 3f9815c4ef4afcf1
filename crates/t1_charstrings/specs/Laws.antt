-- Laws of the charstrings that are kept.
use Rattle.std.specs.Prelude.{◌≡◌, Ok}
use Rattle.t1_parts.specs.LenIV.{lead}
use Rattle.t1_parts.specs.Operator.{operator}
use Rattle.t1_parts.specs.SourceParts.{SourceParts}
use Rattle.t1_source.specs.WellFormed.{IsWellFormed}
use Rattle.t1_font.specs.Assembly.{private_text}
use Rattle.t1_charstrings.specs.declared.entries.Charstrings.{Charstrings}
use Rattle.t1_charstrings.specs.Kept.{AreEncrypted}
use Rattle.t1_charstrings.specs.Lines.{kept_lines_text}

-- word: the private text of a source is that of the charstrings that are kept of it
abbrev pub KeptTextLaw : Type 0
KeptTextLaw =
    (s : SourceParts) (c : Charstrings) → IsWellFormed s → AreEncrypted s c
    → private_text (lead s) (operator s) s.items ≡ Ok (kept_lines_text c (operator s) s.items)
