use Rattle.std.proofs.Common.{◌≡◌, ◌++◌, take}
use Rattle.t1_fault_texts.specs.Shown.{shown}
use Rattle.t1_fault_texts.proofs.shown_bytes.push_shown.Given as goal

-- the bytes so far, after what was there
abbrev pub invariant-loop-byte : goal.invariant-loop-byte
invariant-loop-byte l = l.text.items ≡ l.fn.text.items ++ shown (take l.byte-index l.bytes)
