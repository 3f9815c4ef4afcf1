use Rattle.std.proofs.Common.{take}
use Rattle.t1_session.specs.Conversation.{Answered}
use Rattle.t1_session.specs.Dialogues.{conversation_of}
use Rattle.t1_session.proofs.dialogue.Dialogue.feed.Given as goal

-- the bytes so far were answered
abbrev pub invariant-loop-byte : goal.invariant-loop-byte
invariant-loop-byte g l =
    Answered g.W.Write.contents (conversation_of l.fn.self) (conversation_of l.self) l.fn.writer l.writer (take l.byte-index l.piece)
