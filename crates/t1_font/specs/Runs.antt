-- Runs kept by the names of their glyphs.
use Rattle.std.specs.Prelude.{◌≡◌, true, ◌≤◌, ℕ, if◌then◌else◌, List, Option, None, Some, option_map, Result, Ok, Err}
use Rattle.std.specs.List.{list_any}
use Rattle.std.specs.Map.{lookup}
use Rattle.std.specs.Str.{bytes_eq}
use Rattle.t1_frac.specs.declared.fault.Code.{Code}
use Rattle.t1_frac.specs.declared.fault.Refusal.{Refusal}
use Rattle.t1_frac.specs.declared.fault.Refusal.TheVariants as refusals
use Rattle.t1_run.specs.Run.{FontBodies, Drawing, own}
use Rattle.t1_extent.specs.Kept.{TracedRun, traces}
use Rattle.t1_font.specs.RunCounts.{counted}

-- word: what is kept of a run: what it draws, or its first fault
abbrev pub drawing_kept : Result TracedRun Code → Result Drawing Code
drawing_kept (Ok run) = Ok run.drawing
drawing_kept (Err code) = Err code

-- word: a glyph's name, and its run with its number among the runs, or its first fault
abbrev pub NamedRun : Type 0
NamedRun = List ℕ × Result TracedRun Code

-- word: the run of the glyph of this name
abbrev pub run_kept : List NamedRun → List ℕ → Option (Result TracedRun Code)
run_kept runs name = lookup (bytes_eq name) runs

-- word: what is kept of the glyph of this name: what it draws, or its first fault
abbrev pub drawing_in : List NamedRun → List ℕ → Option (Result Drawing Code)
drawing_in runs name = option_map drawing_kept (run_kept runs name)

-- word: the run of the glyph of this name keeps its trace, unless the glyph can't be a part
abbrev pub IsTracedAs : List ℕ → Option (Result TracedRun Code) → Type 0
IsTracedAs name None = Unit {0}
IsTracedAs name (Some (Err code)) = Unit {0}
IsTracedAs name (Some (Ok run)) = traces name run ≡ true

-- word: so does each run
abbrev pub AreTraced : List NamedRun → Type 0
AreTraced runs = (g : List ℕ) → IsTracedAs g (run_kept runs g)

-- word: what the own bodies of these glyphs draw, or their first faults
abbrev pub own_among : FontBodies → List (List ℕ) → List ℕ → Option (Result Drawing Code)
own_among m names g = if list_any (bytes_eq g) names then own m g else None

-- word: at most so many runs were counted
abbrev pub CountsSome : ℕ → ℕ → ℕ → Type 0
CountsSome runs old new = (made : ℕ) × (made ≤ runs) × (new ≡ counted old made)

-- word: a call counted so many runs, each once, also where it answers a fault; where memory ran out it counted some of them
abbrev pub Counts : {T : Type 0} → ℕ → ℕ → ℕ → Result T Refusal → Type 0
Counts runs old new (Ok done) = new ≡ counted old runs
Counts runs old new (Err (refusals.Fault fault)) = new ≡ counted old runs
Counts runs old new (Err refusals.Memory) = CountsSome runs old new

-- word: a run's number is after this count, or the last number that there is
abbrev pub IsNumberedAfter : ℕ → Option (Result TracedRun Code) → Type 0
IsNumberedAfter count None = Unit {0}
IsNumberedAfter count (Some (Err code)) = Unit {0}
IsNumberedAfter count (Some (Ok run)) = counted count 1 ≤ run.serial
