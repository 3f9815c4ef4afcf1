use Rattle.std.proofs.Common.{◌≡◌, ◌++◌, flat_map, take}
use Rattle.t1_fault_texts.specs.Rows.{entered}
use Rattle.t1_fault_texts.proofs.rows.push_entered.Given as goal

-- those so far, after what was there
abbrev pub invariant-loop-subr : goal.invariant-loop-subr
invariant-loop-subr l = l.words.items ≡ l.fn.words.items ++ flat_map entered (take l.subr-index l.subrs)
