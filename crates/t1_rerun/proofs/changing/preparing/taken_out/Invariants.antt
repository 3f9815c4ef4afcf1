use Rattle.t1_rerun.specs.Steps.{AreTakenOut}
use Rattle.t1_rerun.proofs.changing.preparing.taken_out.Given as goal

-- the names so far are those of glyphs that steps take out
abbrev pub invariant-loop-step : goal.invariant-loop-step
invariant-loop-step l = AreTakenOut l.names.keys l.steps
