-- The numbers of the runs that records keep.
use Rattle.std.specs.Prelude.{◌≤◌, ℕ}
use Rattle.t1_font.specs.RunCounts.{counted}
use Rattle.t1_cache.specs.Recorded.{RecordedGlyph}

-- profile: a record's run is after this count
abbrev pub IsRunAfter : ℕ → RecordedGlyph → Type 0
IsRunAfter count k = counted count 1 ≤ k.run.serial
