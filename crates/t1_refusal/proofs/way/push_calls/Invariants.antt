use Rattle.std.proofs.Common.{◌≡◌, ◌++◌, flat_map, take}
use Rattle.t1_refusal.specs.Telling.{call_text}
use Rattle.t1_refusal.proofs.way.push_calls.Given as goal

-- the Subrs of the calls so far
abbrev pub invariant-loop-call : goal.invariant-loop-call
invariant-loop-call l = l.text.items ≡ l.fn.text.items ++ flat_map call_text (take l.call-index l.calls)
