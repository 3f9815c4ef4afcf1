use Rattle.std.proofs.Common.{◌≡◌, ◌≤◌, ◌++◌, take, drop}
use Rattle.t1_parts.specs.Starts.{lowered_from}
use Rattle.t1_parts.proofs.starts.lower_starts.Given as goal

-- the starts in front of the index are lowered
abbrev pub invariant-loop-index : goal.invariant-loop-index
invariant-loop-index l = (l.from ≤ l.index) × (l.starts ≡ lowered_from l.from (take l.index l.fn.starts) ++ drop l.index l.fn.starts)
