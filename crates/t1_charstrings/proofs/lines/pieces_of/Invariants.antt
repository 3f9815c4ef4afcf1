use Rattle.std.proofs.Common.{◌≡◌, take}
use Rattle.std.specs.List.{flat_map}
use Rattle.t1_code.specs.Parts.{piece_text}
use Rattle.t1_charstrings.specs.Lines.{made_text}
use Rattle.t1_charstrings.proofs.lines.pieces_of.Given as goal

-- the pieces of the lines so far
abbrev pub invariant-loop-made : goal.invariant-loop-made
invariant-loop-made l = flat_map piece_text l.pieces.items ≡ flat_map made_text (take l.made-index l.lines)
