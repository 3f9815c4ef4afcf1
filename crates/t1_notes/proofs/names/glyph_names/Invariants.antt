use Rattle.std.proofs.Common.{◌≡◌, ◌||◌, ℕ, List, drop}
use Rattle.t1_notes.specs.GlyphNames.{has_line_of_glyph}
use Rattle.t1_notes.specs.Tables.{is_among_names}
use Rattle.t1_notes.proofs.names.glyph_names.Given as goal

-- the names so far, and those of the lines that are left
abbrev pub invariant-loop-line : goal.invariant-loop-line
invariant-loop-line l = (glyph : List ℕ) → (is_among_names l.names.keys glyph || has_line_of_glyph (drop l.line-index l.heads) glyph) ≡ has_line_of_glyph l.heads glyph
