use Rattle.std.proofs.Common.{◌≡◌, ◌++◌, flat_map, take}
use Rattle.t1edit.specs.FaultLines.{subr_call_text}
use Rattle.t1edit.proofs.fault_lines.push_calls.Given as goal

-- the calls so far, after what was there
abbrev pub invariant-loop-subr : goal.invariant-loop-subr
invariant-loop-subr l = l.text.items ≡ l.fn.text.items ++ flat_map subr_call_text (take l.subr-index l.subrs)
