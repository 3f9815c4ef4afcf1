use Rattle.std.proofs.Common.{◌≡◌, map, take}
use Rattle.t1_font.specs.OwnedKeys.{key_of}
use Rattle.t1_rerun.specs.Settled.{changed_keys}
use Rattle.t1_rerun.proofs.changing.named_in.Given as goal

-- the entries of the changes so far
abbrev pub invariant-loop-change : goal.invariant-loop-change
invariant-loop-change l = map key_of l.named.items ≡ changed_keys (take l.change-index l.changes)
