use Rattle.t1_measured_notes.proofs.NoteFactLaws.{all_notes_hold}
use Rattle.t1_measured_notes.proofs.laws.notes_hold.Goals as goal

pub returns : goal.returns
returns c = all_notes_hold
