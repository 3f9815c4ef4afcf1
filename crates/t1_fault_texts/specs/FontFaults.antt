-- How a fault of a font's file is written.
use Rattle.std.specs.Prelude.{ℕ, Bool, false, ◌==◌, ◌++◌, List, [], ◌∷◌, drop, codes, decimal, if◌then◌else◌}
use Rattle.t1_disassemble.specs.declared.fault.FontCode.{FontCode}
use Rattle.t1_disassemble.specs.declared.fault.FontCode.TheVariants.{D1, D2, D3, D4, D5, D6, D7, D8, D9, D10, D11, D12, D13, D14, D15, D16, D17}
use Rattle.t1_disassemble.specs.declared.fault.FontFault.{FontFault}
use Rattle.t1_disassemble.specs.declared.fault.FontPlace.{FontPlace}
use Rattle.t1_disassemble.specs.declared.fault.FontPlace.TheVariants.{Nowhere, Byte, Entry}

-- profile: the printed code of a fault
abbrev pub font_code_name : FontCode → List ℕ
font_code_name D1 = codes "D1"
font_code_name D2 = codes "D2"
font_code_name D3 = codes "D3"
font_code_name D4 = codes "D4"
font_code_name D5 = codes "D5"
font_code_name D6 = codes "D6"
font_code_name D7 = codes "D7"
font_code_name D8 = codes "D8"
font_code_name D9 = codes "D9"
font_code_name D10 = codes "D10"
font_code_name D11 = codes "D11"
font_code_name D12 = codes "D12"
font_code_name D13 = codes "D13"
font_code_name D14 = codes "D14"
font_code_name D15 = codes "D15"
font_code_name D16 = codes "D16"
font_code_name D17 = codes "D17"

-- profile: whether an entry is that of a glyph, whose name stands after a slash
abbrev pub begins_with_slash : List ℕ → Bool
begins_with_slash [] = false
begins_with_slash (byte ∷ rest) = byte == 47

-- profile: a glyph by its name, or a Subr by its number, which stands after 'dup '
abbrev pub font_entry_text : List ℕ → List ℕ
font_entry_text entry = if begins_with_slash entry then codes " glyph " ++ drop 1 entry else codes " subr " ++ drop 4 entry

-- profile: where a fault stands, after its code
abbrev pub font_place_text : FontPlace → List ℕ
font_place_text Nowhere = []
font_place_text (Byte n) = codes " byte " ++ decimal n
font_place_text (Entry entry) = font_entry_text entry

-- profile: a fault by its code and place
unfoldable pub font_fault_text : FontFault → List ℕ
font_fault_text fault = font_code_name fault.code ++ font_place_text fault.place
