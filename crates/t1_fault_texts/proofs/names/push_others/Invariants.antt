use Rattle.std.proofs.Common.{◌≡◌, ◌++◌, flat_map, take}
use Rattle.t1_fault_texts.specs.Names.{name_after}
use Rattle.t1_fault_texts.proofs.names.push_others.Given as goal

-- those so far, after what was there
abbrev pub invariant-loop-name : goal.invariant-loop-name
invariant-loop-name l = l.text.items ≡ l.fn.text.items ++ flat_map (name_after l.between) (take l.name-index l.names)
