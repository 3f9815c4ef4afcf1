use Rattle.std.proofs.Common.{◌≡◌, ◌^◌, ◌-◌, min, length, take}
use Rattle.std.specs.List.{flat_map}
use Rattle.t1_code.specs.Parts.{piece_text}
use Rattle.t1_code.proofs.form.private_len.Given as goal

abbrev pub invariant-loop-piece : goal.invariant-loop-piece
invariant-loop-piece l = l.total ≡ min (length (flat_map piece_text (take l.piece-index l.pieces))) (2 ^ 64 - 1)
