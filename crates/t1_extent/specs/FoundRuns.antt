-- Runs that are there.
use Rattle.std.specs.Prelude.{Option, Some, None, Result, Err}
use Rattle.t1_frac.specs.declared.fault.Code.{Code}
use Rattle.t1_frac.specs.declared.fault.Code.TheVariants.{F45}
use Rattle.t1_run.specs.Run.{Drawing}

-- profile: what a glyph's own run draws, or its first fault; a run that is missing is F45
abbrev pub run_there : Option (Result Drawing Code) → Result Drawing Code
run_there None = Err F45
run_there (Some run) = run
