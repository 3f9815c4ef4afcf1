-- How many glyphs are run for an outline.
use Rattle.std.specs.Prelude.{ℕ, zero, suc, ◌+◌, List, Option, Some, None, Result, Ok, Err}
use Rattle.t1_frac.specs.declared.fault.Code.{Code}
use Rattle.t1_run.specs.declared.outline.Composite.{Composite}
use Rattle.t1_run.specs.Run.{FontBodies, Drawing, own}

-- profile, runs: those for the base and those for the accent of a composite
abbrev pub runs_for_parts : (List ℕ → ℕ) → Option Composite → ℕ
runs_for_parts part None = 0
runs_for_parts part (Some c) = part c.base + part c.accent

-- profile, runs: one for the glyph itself, and those for its parts; none for a glyph that isn't there
abbrev pub runs_after : (List ℕ → ℕ) → Option (Result Drawing Code) → ℕ
runs_after part None = 0
runs_after part (Some (Err fault)) = 1
runs_after part (Some (Ok d)) = 1 + runs_for_parts part d.composite

-- profile, runs: the runs for a glyph's outline, where composites may nest so deep
abbrev pub runs_within : (List ℕ → Option (Result Drawing Code)) → ℕ → List ℕ → ℕ
runs_within run zero glyph = runs_after (λ part. 0) (run glyph)
runs_within run (suc depth) glyph = runs_after (runs_within run depth) (run glyph)

-- profile, runs: as many glyphs are run for the outline of a glyph of a font: the glyph and its parts, each as often as it is
-- drawn, where no run has a fault
unfoldable pub outline_runs : FontBodies → List ℕ → ℕ
outline_runs m glyph = runs_within (own m) 4 glyph
