use Rattle.std.proofs.Common.{ℕ, List, ◌-◌, ◌^◌}
use Rattle.t1_session.specs.Conversation.{Answered, fresh}
use Rattle.t1_session.specs.Dialogues.{conversation_of}
use Rattle.t1_session.specs.Serving.{Reads}
use Rattle.t1_session.proofs.dialogue.Dialogue.converse.Given as goal

-- what was read so far was answered
abbrev pub invariant-pieces : goal.invariant-pieces
invariant-pieces g l =
    (input : List ℕ) × Reads g.R.Read.remaining l.fn.reader l.reader input × Answered g.W.Write.contents (fresh l.fn.self.session) (conversation_of l.self) l.fn.writer l.writer input

abbrev pub decreases-pieces : goal.decreases-pieces
decreases-pieces g l = 2 ^ 63 - l.reader.turns
