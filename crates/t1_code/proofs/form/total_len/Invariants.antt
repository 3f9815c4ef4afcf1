use Rattle.std.proofs.Common.{◌≡◌, ◌^◌, ◌-◌, min, length, take}
use Rattle.t1_code.specs.Parts.{slices_bytes}
use Rattle.t1_code.proofs.form.total_len.Given as goal

abbrev pub invariant-loop-slice : goal.invariant-loop-slice
invariant-loop-slice l = l.total ≡ min (length (slices_bytes (take l.slice-index l.slices))) (2 ^ 64 - 1)
