use Rattle.t1_parts.proofs.PieceLaws.{left_after, IsRead}
use Rattle.t1_parts.proofs.body.commented_body.Given as goal

-- the body is the words so far, and that of the piece and of the bytes after it
abbrev pub invariant-loop-piece : goal.invariant-loop-piece
invariant-loop-piece l = IsRead l.words l.more l.bytes l.piece

abbrev pub decreases-loop-piece : goal.decreases-loop-piece
decreases-loop-piece l = left_after l.piece
