use Rattle.std.proofs.Common.{◌++◌, drop}
use Rattle.std.specs.List.{flat_map}
use Rattle.t1_code.specs.Parts.{piece_text}
use Rattle.t1_code.proofs.Carrying.{Carried}
use Rattle.t1_code.proofs.Enciphering.{enciphering}
use Rattle.t1_code.proofs.eexec.EexecWriter.put_pieces.Given as goal

-- what waits and the pieces that are left go out under the present key
abbrev pub invariant-loop-piece : goal.invariant-loop-piece
invariant-loop-piece g l =
    Carried g.W.Write.contents enciphering l.fn.outlet l.outlet l.fn.self l.self (flat_map piece_text l.pieces) (l.waiting ++ flat_map piece_text (drop l.piece-index l.pieces))
