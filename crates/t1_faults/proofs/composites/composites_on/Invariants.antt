use Rattle.std.proofs.Common.{◌≡◌, ◌++◌, ℕ, drop, map}
use Rattle.t1_font.specs.Runs.{drawing_in}
use Rattle.t1_faults.specs.GlyphRuns.{composites_kept, composites_on, number_kept}
use Rattle.t1_faults.proofs.composites.composites_on.Given as goal

-- what is kept so far, and the composites among the glyphs that are left
abbrev pub invariant-loop-name : goal.invariant-loop-name
invariant-loop-name l =
    (n : ℕ)
    → composites_kept l.composites.entries n ++ composites_on (number_kept l.numbers.entries) (drawing_in l.runs) (map (λ name. name.now) (drop l.name-index l.glyphs)) n
    ≡ composites_on (number_kept l.numbers.entries) (drawing_in l.runs) (map (λ name. name.now) l.glyphs) n
