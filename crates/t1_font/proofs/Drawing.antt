-- Refusals of steps.
use Rattle.std.specs.Prelude.{Result, Ok, Err}
use Rattle.t1_frac.specs.Outcome.{◌>>=◌, Refuses}
use Rattle.t1_frac.specs.declared.fault.Fault.{Fault as TheFault}
use Rattle.t1_frac.specs.declared.fault.Refusal.{Refusal}
use Rattle.t1_frac.specs.declared.fault.Refusal.TheVariants.{Fault, Memory}

pub refuses-then : {A B : Type 0} (refused : Refusal) (r : Result A TheFault) (next : A → Result B TheFault) → Refuses refused r → Refuses refused (r >>= next)
refuses-then Memory r next h = tt
refuses-then (Fault fault) (Ok x) next h = absurd (cc)
refuses-then (Fault fault) (Err e) next h = cc
