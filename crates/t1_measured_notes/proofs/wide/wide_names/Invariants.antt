use Rattle.std.proofs.Common.{◌≡◌, ◌||◌, ℕ, List, drop}
use Rattle.t1_notes.specs.Tables.{is_among_names}
use Rattle.t1_measured_notes.specs.MeasuredNotes.{is_wide}
use Rattle.t1_measured_notes.proofs.wide.wide_names.Given as goal

-- the names so far, and those of the glyphs that are left
abbrev pub invariant-loop-glyph : goal.invariant-loop-glyph
invariant-loop-glyph l =
    (name : List ℕ) → (is_among_names l.names.keys name || is_wide (drop l.glyph-index l.glyphs) name) ≡ is_wide l.glyphs name
