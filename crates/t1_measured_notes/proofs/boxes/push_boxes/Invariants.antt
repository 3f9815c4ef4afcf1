use Rattle.std.proofs.Common.{◌≡◌, ◌++◌, drop}
use Rattle.t1_measured_notes.specs.MeasuredNotes.{box_notes}
use Rattle.t1_measured_notes.proofs.boxes.push_boxes.Given as goal

-- the notes so far, and those of the lines that are left
abbrev pub invariant-loop-line : goal.invariant-loop-line
invariant-loop-line l = l.notes.items ++ box_notes l.bounds (drop l.line-index l.lines) ≡ l.fn.notes.items ++ box_notes l.bounds l.lines
