-- Faults with their places, steps that may fail, and what a call answers where a definition gives a value or a fault.
use Rattle.std.specs.Prelude.{◌≡◌, Result, Ok, Err}
use Rattle.t1_frac.specs.declared.fault.Code.{Code}
use Rattle.t1_frac.specs.declared.fault.Fault.{Fault}
use Rattle.t1_frac.specs.declared.fault.Place.{Place}
use Rattle.t1_frac.specs.declared.fault.Refusal.{Refusal}
use Rattle.t1_frac.specs.declared.fault.Refusal.TheVariants as refusals

-- profile, faults: the fault of a code at a place
abbrev pub fault_at : Place → Code → Fault
fault_at place code = record { code = code; place = place }

-- profile, faults: the outcome, with its fault reported at this place
abbrev pub reported_at : {X : Type 0} → Place → Result X Code → Result X Fault
reported_at place (Ok x) = Ok x
reported_at place (Err code) = Err (fault_at place code)

infixl 10 ◌>>=◌
-- profile, faults: the second step, where the first gave a value; else the first one's fault
abbrev pub ◌>>=◌ : {E A B : Type 0} → Result A E → (A → Result B E) → Result B E
(Ok x) >>= f = f x
(Err e) >>= f = Err e

-- profile, faults: a refusal is the fault that the definition gives, or out of memory
abbrev pub Refuses : {Y : Type 0} → Refusal → Result Y Fault → Type 0
Refuses refusals.Memory given = Unit {0}
Refuses (refusals.Fault fault) given = given ≡ Err fault

-- profile, faults: a call answers what a definition gives: its value, as the view sees it, or its fault, unless memory
-- ran out
abbrev pub Gives : {X Y : Type 0} → (X → Y) → Result X Refusal → Result Y Fault → Type 0
Gives view (Ok x) given = given ≡ Ok (view x)
Gives view (Err refused) given = Refuses refused given
