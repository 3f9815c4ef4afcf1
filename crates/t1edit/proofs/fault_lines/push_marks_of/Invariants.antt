use Rattle.std.proofs.Common.{◌≡◌, ◌++◌, codes, flat_map, take}
use Rattle.t1edit.proofs.fault_lines.push_marks_of.Given as goal

-- the marks so far, after what was there
abbrev pub invariant-loop-byte : goal.invariant-loop-byte
invariant-loop-byte l = l.text.items ≡ l.fn.text.items ++ flat_map (λ c. codes "^") (take l._byte-index l.word)
