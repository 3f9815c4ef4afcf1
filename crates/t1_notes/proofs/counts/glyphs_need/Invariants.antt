use Rattle.std.proofs.Common.{◌≡◌, ◌+◌, ◌≤◌, drop}
use Rattle.t1_notes.specs.Notes.{glyphs_need}
use Rattle.t1_notes.proofs.counts.glyphs_need.Given as goal

-- the glyphs so far, and those of the lines that are left
abbrev pub invariant-loop-line : goal.invariant-loop-line
invariant-loop-line l = (l.need + glyphs_need (drop l.line-index l.heads) ≡ glyphs_need l.heads) × (l.need ≤ l.line-index)
