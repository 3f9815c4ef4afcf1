use Rattle.std.proofs.Common.{drop}
use Rattle.t1edit.specs.Reporting.{ReportsEach}
use Rattle.t1edit.proofs.ReportsInTurn.{Left}
use Rattle.t1edit.proofs.reporting.report_files.Given as goal

-- what became of the files so far
abbrev pub invariant-loop-path : goal.invariant-loop-path
invariant-loop-path g l =
    Left (ReportsEach g.F.Files.holds g.F.Files.fails l.files l.kind l.is_strict (g.R.Report.says l.report) (g.R.Report.finds l.report) g.W.Write.contents g.E.Write.contents) l.paths (drop l.path-index l.paths) (l.fn.out, l.fn.lines) (l.out, l.lines) l.worst
