-- Faults of a file with their places, and what a call answers where a definition gives a value or a fault.
use Rattle.std.specs.Prelude.{◌≡◌, Result, Ok, Err}
use Rattle.t1_disassemble.specs.declared.fault.FontCode.{FontCode}
use Rattle.t1_disassemble.specs.declared.fault.FontFault.{FontFault}
use Rattle.t1_disassemble.specs.declared.fault.FontPlace.{FontPlace}
use Rattle.t1_disassemble.specs.declared.fault.FontRefusal.{FontRefusal}
use Rattle.t1_disassemble.specs.declared.fault.FontRefusal.TheVariants as refusals

-- profile, faults: the fault of a code at a place
abbrev pub font_fault_at : FontPlace → FontCode → FontFault
font_fault_at place code = record { code = code; place = place }

-- profile, faults: the outcome, with its fault reported at this place
abbrev pub font_reported_at : {X : Type 0} → FontPlace → Result X FontCode → Result X FontFault
font_reported_at place (Ok x) = Ok x
font_reported_at place (Err code) = Err (font_fault_at place code)

-- profile, faults: a refusal is the fault that the definition gives, or out of memory
abbrev pub RefusesFont : {Y : Type 0} → FontRefusal → Result Y FontFault → Type 0
RefusesFont refusals.Memory given = Unit {0}
RefusesFont (refusals.Fault fault) given = given ≡ Err fault

-- profile, faults: a call answers what a definition gives: its value, as the view sees it, or its fault, unless memory
-- ran out
abbrev pub GivesFont : {X Y : Type 0} → (X → Y) → Result X FontRefusal → Result Y FontFault → Type 0
GivesFont view (Ok x) given = given ≡ Ok (view x)
GivesFont view (Err refused) given = RefusesFont refused given
