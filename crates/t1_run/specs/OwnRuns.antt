-- What a call that runs a glyph's own body answers.
use Rattle.std.specs.Prelude.{Option, Some, None, Result}
use Rattle.t1_frac.specs.Outcome.{reported_at, Gives}
use Rattle.t1_frac.specs.declared.fault.Code.{Code}
use Rattle.t1_frac.specs.declared.fault.Place.TheVariants.{Nowhere}
use Rattle.t1_frac.specs.declared.fault.Refusal.{Refusal}
use Rattle.t1_run.specs.Run.{Drawing, NumberedRun}

-- profile: a call answers what the own body of a glyph of the maps draws, or its fault at no place, unless memory ran out
abbrev pub GivesOwn : Result NumberedRun Refusal → Option (Result Drawing Code) → Type 0
GivesOwn result None = ⊥
GivesOwn result (Some outcome) = Gives (λ run. run.drawing) result (reported_at Nowhere outcome)
