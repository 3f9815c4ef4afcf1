-- What contracts see of the parts of a font that stand elsewhere.
use Rattle.t1_disassemble.specs.declared.segments.LentParts.{LentParts}
use Rattle.t1_disassemble.specs.SegmentsRead.{FontParts}

-- word: the parts of a font
abbrev pub lent_parts : LentParts → FontParts
lent_parts parts = record { clear = parts.clear.now; coded = parts.coded.now; tail = parts.tail.now }
