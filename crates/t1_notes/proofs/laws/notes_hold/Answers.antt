use Rattle.t1_notes.proofs.NoteFactLaws.{all_hold}
use Rattle.t1_notes.proofs.laws.notes_hold.Goals as goal

pub returns : goal.returns
returns c = all_hold
