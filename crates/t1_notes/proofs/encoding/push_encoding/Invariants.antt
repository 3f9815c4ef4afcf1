use Rattle.std.proofs.Common.{◌≡◌, ◌++◌, drop}
use Rattle.t1_notes.specs.declared.note.NoteKind.TheVariants.{EncodedName}
use Rattle.t1_notes.specs.Tables.{is_among_names}
use Rattle.t1_notes.specs.Notes.{is_lost, noted}
use Rattle.t1_notes.proofs.encoding.push_encoding.Given as goal

-- the notes so far, and those of the lines that are left
abbrev pub invariant-loop-line : goal.invariant-loop-line
invariant-loop-line l =
    l.notes.items ++ noted EncodedName (is_lost (is_among_names l.names.keys)) (drop l.line-index l.array)
    ≡ l.fn.notes.items ++ noted EncodedName (is_lost (is_among_names l.names.keys)) l.array
