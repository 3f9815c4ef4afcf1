use Rattle.std.proofs.Common.{◌≡◌, ◌≤◌, length, false}
use Rattle.t1_disassemble.specs.Front.{line_len}
use Rattle.t1_disassemble.specs.PiecesOnto.{private_onto}
use Rattle.t1_disassemble.specs.Standing.{judged}
use Rattle.t1_disassemble.specs.Stood.{standing_of}
use Rattle.t1_disassemble.proofs.private.push_private.Given as goal

-- the text so far, and the pieces that are left
abbrev pub invariant-loop-buffer : goal.invariant-loop-buffer
invariant-loop-buffer g l = record {
  read : private_onto l.settings.operator.now l.settings.lead (g.T.Lines.text l.text) l.waits l.rest ≡ private_onto l.settings.operator.now l.settings.lead (g.T.Lines.text l.fn.text) false l.bytes;
  stands : judged l.settings.operator.now l.settings.lead l.rest l.waits (standing_of l.standing) ≡ judged l.settings.operator.now l.settings.lead l.bytes false (standing_of l.fn.standing);
  end : l.end ≡ line_len l.rest;
  within : length l.rest ≤ length l.bytes;
}

abbrev pub decreases-loop-buffer : goal.decreases-loop-buffer
decreases-loop-buffer g l = length l.rest
