-- The newest runs of an edited font.
use Rattle.std.specs.Prelude.{◌≡◌, List, ℕ, Option, Result, Ok, Err}
use Rattle.std.specs.Option.{option_or}
use Rattle.t1_frac.specs.declared.fault.Code.{Code}
use Rattle.t1_frac.specs.declared.fault.Fault.{Fault}
use Rattle.t1_frac.specs.declared.fault.Refusal.{Refusal}
use Rattle.t1_frac.specs.declared.fault.Refusal.TheVariants as refusals
use Rattle.t1_frac.specs.Outcome.{Refuses}
use Rattle.t1_run.specs.Run.{FontBodies, Drawing}
use Rattle.t1_font.specs.Runs.{NamedRun, drawing_in, own_among}
use Rattle.t1_cache.specs.declared.records.Records.{Records}
use Rattle.t1_cache.specs.Renewed.{recorded_run}

-- word: the run that was made again, where there is one, else the run of the record
abbrev pub newest : List NamedRun → Records → List ℕ → Option (Result Drawing Code)
newest runs records g = option_or (drawing_in runs g) (recorded_run records g)

-- word: what the own bodies of these glyphs draw, else the run of the record
abbrev pub newest_among : FontBodies → List (List ℕ) → Records → List ℕ → Option (Result Drawing Code)
newest_among m names records g = option_or (own_among m names g) (recorded_run records g)

-- word, order of faults: what was reported of glyphs in the order in which they were found; where one has a fault,
-- the first in the order of the font
abbrev pub judged_in : {X Y : Type 0} → Result X Fault → Result Y Fault → Result X Fault
judged_in (Ok found) ordered = Ok found
judged_in (Err fault) (Ok ordered) = Err fault
judged_in (Err fault) (Err first) = Err first

-- word: in the place of a refusal stands the first fault in the order of the font
abbrev pub FirstIn : {Y : Type 0} → Refusal → Result Y Fault → Refusal → Type 0
FirstIn refusals.Memory ordered refused = refused ≡ refusals.Memory
FirstIn (refusals.Fault fault) (Ok there) refused = Refuses {Y = Unit {0}} refused (Err fault)
FirstIn (refusals.Fault fault) (Err first) refused = Refuses {Y = Unit {0}} refused (Err first)
