use Rattle.std.proofs.Common.{◌≡◌, ◌++◌, drop}
use Rattle.t1_notes.specs.declared.note.NoteKind.TheVariants.{WideGlyph}
use Rattle.t1_notes.specs.GlyphNames.{opened_name}
use Rattle.t1_notes.specs.Tables.{is_among_names}
use Rattle.t1_notes.specs.Notes.{noted}
use Rattle.t1_measured_notes.specs.MeasuredNotes.{is_name_that}
use Rattle.t1_measured_notes.proofs.wide.push_heads.Given as goal

-- the notes so far, and those of the lines that are left
abbrev pub invariant-loop-line : goal.invariant-loop-line
invariant-loop-line l =
    l.notes.items ++ noted WideGlyph (λ line. is_name_that (is_among_names l.names.keys) (opened_name line)) (drop l.line-index l.heads)
    ≡ l.fn.notes.items ++ noted WideGlyph (λ line. is_name_that (is_among_names l.names.keys) (opened_name line)) l.heads
