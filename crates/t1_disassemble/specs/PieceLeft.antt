-- What contracts see of a piece of the private text.
use Rattle.std.specs.Prelude.{ℕ, List}
use Rattle.t1_disassemble.specs.declared.private.EntryRead.{EntryRead}
use Rattle.t1_disassemble.specs.PrivateText.{PieceRead}

-- word: a piece that was read, and the text up to it
abbrev pub piece_of : List ℕ → EntryRead → PieceRead
piece_of text piece = record { text = text; waits = piece.waits; rest = piece.rest.now; is_last = piece.is_last }
