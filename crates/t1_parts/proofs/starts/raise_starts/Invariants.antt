use Rattle.std.proofs.Common.{◌≡◌, ◌≤◌, ◌++◌, take, drop}
use Rattle.t1_parts.specs.Starts.{raised_from}
use Rattle.t1_parts.proofs.starts.raise_starts.Given as goal

-- the starts in front of the index are raised
abbrev pub invariant-loop-index : goal.invariant-loop-index
invariant-loop-index l = (l.from ≤ l.index) × (l.starts ≡ raised_from l.from (take l.index l.fn.starts) ++ drop l.index l.fn.starts)
