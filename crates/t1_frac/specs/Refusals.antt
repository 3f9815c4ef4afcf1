-- Refusals, as the code lifts them.
use Rattle.std.specs.Prelude.{◌≡◌}
use Rattle.t1_frac.specs.declared.fault.Code.{Code}
use Rattle.t1_frac.specs.declared.fault.Fault.{Fault}
use Rattle.t1_frac.specs.declared.fault.Place.{Place}
use Rattle.t1_frac.specs.declared.fault.Place.TheVariants.{Nowhere}
use Rattle.t1_frac.specs.declared.fault.Refusal.{Refusal}
use Rattle.t1_frac.specs.declared.fault.Refusal.TheVariants as refusals
use Rattle.t1_frac.specs.Outcome.{fault_at}

-- word, faults: the refusal by a code that knows no place
abbrev pub refusal : Code → Refusal
refusal code = refusals.Fault (fault_at Nowhere code)

-- word, faults: the refusal, with its fault reported at this place
abbrev pub placed : Place → Refusal → Refusal
placed place (refusals.Fault fault) = refusals.Fault (fault_at place fault.code)
placed place refusals.Memory = refusals.Memory

-- word, faults: a refusal that is another one with its fault reported at this place, unless memory ran out
abbrev pub IsPlaced : Place → Refusal → Refusal → Type 0
IsPlaced place refused refusals.Memory = Unit {0}
IsPlaced place refused (refusals.Fault fault) = placed place refused ≡ refusals.Fault fault
