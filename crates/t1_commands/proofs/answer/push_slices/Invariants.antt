use Rattle.std.proofs.Common.{◌≡◌, ◌++◌, drop}
use Rattle.t1_code.specs.Parts.{slices_bytes}
use Rattle.t1_commands.proofs.answer.push_slices.Given as goal

-- the slices so far, and those that are left
abbrev pub invariant-loop-slice : goal.invariant-loop-slice
invariant-loop-slice l = l.text.items ++ slices_bytes (drop l.slice-index l.slices) ≡ l.fn.text.items ++ slices_bytes l.slices
