use Rattle.std.proofs.Common.{◌≡◌, ◌≤◌, ◌+◌, ◌++◌, drop, length}
use Rattle.t1_code.specs.Parts.{slices_bytes}
use Rattle.t1_code.proofs.chunk.Chunk.keep_all.Given as goal

-- the slices so far wait, and the chunk takes the others too
abbrev pub invariant-loop-slice : goal.invariant-loop-slice
invariant-loop-slice l =
    (l.self ++ slices_bytes (drop l.slice-index l.slices) ≡ l.fn.self ++ slices_bytes l.slices) × (length l.self + length (slices_bytes (drop l.slice-index l.slices)) ≤ 4096)
