-- What stands after an outcome that is no fault, and of a fault at another place.
use Rattle.std.proofs.Common.{◌≡◌, Result, Ok, Err, refl, ap, ◌∙◌}
use Rattle.std.specs.Result.{OnErr}
use Rattle.t1_frac.specs.declared.fault.Code.{Code}
use Rattle.t1_frac.specs.declared.fault.Fault.{Fault}
use Rattle.t1_frac.specs.declared.fault.Place.{Place}
use Rattle.t1_frac.specs.declared.fault.Place.TheVariants.{Nowhere}
use Rattle.t1_frac.specs.declared.fault.Refusal.{Refusal}
use Rattle.t1_frac.specs.declared.fault.Refusal.TheVariants as refusals
use Rattle.t1_frac.specs.Outcome.{fault_at, reported_at, Refuses, ◌>>=◌}
use Rattle.t1_frac.specs.Refusals.{IsPlaced}

-- what holds anyway holds after an error
pub on_err : {X E P : Type 0} (r : Result X E) → P → OnErr r P
on_err (Ok x) p = tt
on_err (Err e) p = p

-- the step that gave what a step after it was given
pub bind_ok : {E A B : Type 0} (r : Result A E) (f : A → Result B E) (b : B) → (r >>= f) ≡ Ok b → (a : A) × (r ≡ Ok a) × (f a ≡ Ok b)
bind_ok (Ok a) f b e = (a, refl, e)
bind_ok (Err x) f b e = cc

pub reported_ok : {X : Type 0} (place : Place) (r : Result X Code) (x : X) → reported_at place r ≡ Ok x → r ≡ Ok x
reported_ok place (Ok y) x e = let same : y ≡ x = cc in ap Ok same
reported_ok place (Err c) x e = cc

-- a fault that was told at no place is told at another
fault_placed : {X : Type 0} (place : Place) (fault there : Fault) (r : Result X Code) → reported_at Nowhere r ≡ Err fault → refusals.Fault (fault_at place fault.code) ≡ refusals.Fault there → reported_at place r ≡ Err there
fault_placed place fault there (Ok x) e p = cc
fault_placed place fault there (Err code) e p =
    let same : fault_at Nowhere code ≡ fault = cc in
    let is : fault_at place fault.code ≡ there = cc in
    ap Err (ap (λ (f : Fault). fault_at place f.code) same ∙ is)

pub refuses_at : {X : Type 0} (place : Place) (refused there : Refusal) (r : Result X Code) → Refuses refused (reported_at Nowhere r) → IsPlaced place refused there → Refuses there (reported_at place r)
refuses_at place refused refusals.Memory r h p = tt
refuses_at place (refusals.Fault fault) (refusals.Fault there) r h p = fault_placed place fault there r h p
refuses_at place refusals.Memory (refusals.Fault there) r h p = cc
