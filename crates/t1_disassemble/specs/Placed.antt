-- Faults that get their place.
use Rattle.std.specs.Prelude.{◌≡◌, ◌⊎◌}
use Rattle.t1_disassemble.specs.declared.fault.FontPlace.{FontPlace}
use Rattle.t1_disassemble.specs.declared.fault.FontRefusal.{FontRefusal}
use Rattle.t1_disassemble.specs.declared.fault.FontRefusal.TheVariants as refusals
use Rattle.t1_disassemble.specs.Outcome.{font_fault_at}

-- word: the refusal, with its fault at this place
abbrev pub font_refusal_at : FontPlace → FontRefusal → FontRefusal
font_refusal_at place (refusals.Fault fault) = refusals.Fault (font_fault_at place fault.code)
font_refusal_at place refusals.Memory = refusals.Memory

-- word: the same, or out of memory for the place
abbrev pub IsPlaced : FontPlace → FontRefusal → FontRefusal → Type 0
IsPlaced place refused result = (result ≡ refusals.Memory) ⊎ (result ≡ font_refusal_at place refused)
