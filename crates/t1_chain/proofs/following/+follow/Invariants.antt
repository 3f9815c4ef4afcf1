use Rattle.std.proofs.Common.{◌≡◌, ◌+◌, length}
use Rattle.t1_run.specs.Machine.{state_of}
use Rattle.t1_run.specs.Run.{font}
use Rattle.t1_chain.proofs.FollowingLaws.{Left}
use Rattle.t1_chain.proofs.following.+follow.Given as goal

-- what is left stops as the whole body does
abbrev pub invariant-words : goal.invariant-words
invariant-words g l = record {
  same : Left (font (g.B.Bodies.subrs l.bodies) (g.B.Bodies.glyphs l.bodies)) l.levels l.body (state_of l.fn.state) l.next l.rest (state_of l.state);
  count : l.next + length l.rest ≡ length l.body;
}

abbrev pub decreases-words : goal.decreases-words
decreases-words g l = length l.rest

abbrev pub decreases-follow : goal.decreases-follow
decreases-follow g l = l.levels
