use Rattle.std.proofs.Common.{◌≡◌, bytes_eq, drop}
use Rattle.std.specs.Map.{lookup}
use Rattle.t1_notes.specs.Tables.{rows_of}
use Rattle.t1_notes.proofs.commands.find.Given as goal

-- no row so far has the word
abbrev pub invariant-loop-key : goal.invariant-loop-key
invariant-loop-key l = lookup (bytes_eq l.word) (rows_of (drop l.key-index l.table)) ≡ lookup (bytes_eq l.word) (rows_of l.table)
