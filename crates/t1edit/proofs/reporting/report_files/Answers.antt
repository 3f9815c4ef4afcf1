use Rattle.std.proofs.Common.{◌<◌, ◌+◌, length, drop, get_or, arith, []}
use Rattle.std.proofs.lemmas.List.{drop_all, drop_more}
use Rattle.t1edit.specs.Reporting.{ReportsEach}
use Rattle.t1edit.proofs.ReportsInTurn.{left_after, left_all, left_none}
use Rattle.t1edit.proofs.reporting.report_files.Goals as goal

pub loop-path-init : goal.loop-path-init
loop-path-init g c =
    left_all (ReportsEach g.F.Files.holds g.F.Files.fails c.args.files.now c.args.kind c.args.is_strict (g.R.Report.says c.args.report.now) (g.R.Report.finds c.args.report.now) g.W.Write.contents g.E.Write.contents) c.args.paths.now (c.args.out.now, c.args.lines.now)

pub loop-path-preserved : goal.loop-path-preserved
loop-path-preserved g c =
    let inside : c.loop-path.path-index < length c.args.paths.now = omega arith in
    rw c.max-worst.ensures
    (left_after (ReportsEach g.F.Files.holds g.F.Files.fails c.args.files.now c.args.kind c.args.is_strict (g.R.Report.says c.args.report.now) (g.R.Report.finds c.args.report.now) g.W.Write.contents g.E.Write.contents) c.args.paths.now (c.args.out.now, c.args.lines.now) (c.loop-path.out, c.loop-path.lines) (c.report_file-status.new.out, c.report_file-status.new.lines)
    c.loop-path.worst c.report_file-status.result (get_or c.args.paths.now c.loop-path.path-index (record { ref_ptr = (0, 0); now = [] })) (drop (c.loop-path.path-index + 1) c.args.paths.now)
    (rw (drop_more c.args.paths.now c.loop-path.path-index (record { ref_ptr = (0, 0); now = [] }) inside) at c.loop-path.invariant)
    c.report_file-status.ensures)

pub returns : goal.returns
returns g c =
    left_none (ReportsEach g.F.Files.holds g.F.Files.fails c.args.files.now c.args.kind c.args.is_strict (g.R.Report.says c.args.report.now) (g.R.Report.finds c.args.report.now) g.W.Write.contents g.E.Write.contents) c.args.paths.now (c.args.out.now, c.args.lines.now) (c.loop-path.out, c.loop-path.lines) c.loop-path.worst
    (rw (drop_all c.loop-path.path-index c.args.paths.now (omega arith)) at c.loop-path.invariant)
