use Rattle.std.proofs.Common.{◌≡◌, take}
use Rattle.t1_faults.proofs.glyph_names.copied_names.Given as goal

-- the names so far
abbrev pub invariant-loop-name : goal.invariant-loop-name
invariant-loop-name l = l.copies.items ≡ take l.name-index l.names
