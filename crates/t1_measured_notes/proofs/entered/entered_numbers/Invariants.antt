use Rattle.std.proofs.Common.{◌≡◌, ◌||◌, ℕ, drop}
use Rattle.t1_measured_notes.specs.MeasuredNotes.{is_entered}
use Rattle.t1_run.specs.RunKeys.{has_number}
use Rattle.t1_measured_notes.proofs.entered.entered_numbers.Given as goal

-- the numbers so far, and those of the glyphs that are left
abbrev pub invariant-loop-glyph : goal.invariant-loop-glyph
invariant-loop-glyph l = (n : ℕ) → (has_number l.numbers.keys n || is_entered (drop l.glyph-index l.glyphs) n) ≡ is_entered l.glyphs n
