-- The places of a font's faults, as the code reads them.
use Rattle.std.specs.Prelude.{ℕ}
use Rattle.t1_disassemble.specs.declared.fault.FontPlace.{FontPlace}
use Rattle.t1_disassemble.specs.declared.fault.FontPlace.TheVariants.{Nowhere, Byte, Entry}

-- word: the number that stands in a place
abbrev pub font_place_number : FontPlace → ℕ
font_place_number Nowhere = 0
font_place_number (Byte n) = n
font_place_number (Entry entry) = 0
