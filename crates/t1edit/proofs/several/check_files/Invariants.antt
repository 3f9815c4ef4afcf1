use Rattle.std.proofs.Common.{drop}
use Rattle.t1edit.specs.Several.{Becomes}
use Rattle.t1edit.proofs.InTurn.{Left}
use Rattle.t1edit.proofs.several.check_files.Given as goal

-- what became of the files so far, and was told
abbrev pub invariant-loop-path : goal.invariant-loop-path
invariant-loop-path g l =
    Left (Becomes g.F.Files.holds g.F.Files.fails l.files l.kind l.pairs) g.W.Write.contents l.paths (drop l.path-index l.paths) l.fn.writer l.writer l.worst
