use Rattle.std.proofs.Common.{◌≡◌, ◌+◌, ◌-◌, ◌≤◌, ◌++◌, length, take, drop}
use Rattle.t1_run.specs.Pushing.{numbers_at_front}
use Rattle.t1_run.proofs.operands.store_numbers.Given as goal

-- the numbers that are stored, in front of those that are left
abbrev pub invariant-loop-count : goal.invariant-loop-count
invariant-loop-count l = record {
  few : l.count ≤ l.most;
  rest : l.rest ≡ drop l.count l.commands;
  count : l.count + length (numbers_at_front (l.most - l.count) l.rest) ≡ length (numbers_at_front l.most l.commands);
  stored : take (l.place + l.count) l.values ++ numbers_at_front (l.most - l.count) l.rest ≡ take l.place l.fn.values ++ numbers_at_front l.most l.commands;
}

abbrev pub decreases-loop-count : goal.decreases-loop-count
decreases-loop-count l = l.most - l.count
