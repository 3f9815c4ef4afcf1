use Rattle.std.proofs.Common.{◌≡◌, ◌++◌, drop, map}
use Rattle.t1_font.specs.OwnedKeys.{key_of}
use Rattle.t1_held.specs.Entries.{gone_keys}
use Rattle.t1_held.proofs.preparing.gone_entries.Given as goal

-- the keys that were put in, and those of the changes that are left
abbrev pub invariant-loop-change : goal.invariant-loop-change
invariant-loop-change l = map key_of l.gone.items ++ gone_keys (drop l.change-index l.fn.changes) ≡ gone_keys l.fn.changes
