use Rattle.std.proofs.Common.{◌<◌, ◌+◌, length, drop, get_or, arith, []}
use Rattle.std.proofs.lemmas.List.{drop_all, drop_more}
use Rattle.t1edit.specs.Several.{Becomes}
use Rattle.t1edit.proofs.InTurn.{left_after, left_all, left_none}
use Rattle.t1edit.proofs.several.check_files.Goals as goal

pub loop-path-init : goal.loop-path-init
loop-path-init g c = left_all (Becomes g.F.Files.holds g.F.Files.fails c.args.files.now c.args.kind c.args.pairs.now) g.W.Write.contents c.args.paths.now c.args.writer.now

pub loop-path-preserved : goal.loop-path-preserved
loop-path-preserved g c =
    let inside : c.loop-path.path-index < length c.args.paths.now = omega arith in
    rw (c.max-worst.ensures, c.tell.ensures.status)
    (left_after (Becomes g.F.Files.holds g.F.Files.fails c.args.files.now c.args.kind c.args.pairs.now) g.W.Write.contents c.args.paths.now c.args.writer.now c.loop-path.writer c.tell.new.writer
    c.loop-path.worst (get_or c.args.paths.now c.loop-path.path-index (record { ref_ptr = (0, 0); now = [] })) (drop (c.loop-path.path-index + 1) c.args.paths.now) c.check_path-answer.result
    (rw (drop_more c.args.paths.now c.loop-path.path-index (record { ref_ptr = (0, 0); now = [] }) inside) at c.loop-path.invariant)
    c.check_path-answer.ensures
    c.tell.ensures.line)

pub returns : goal.returns
returns g c =
    left_none (Becomes g.F.Files.holds g.F.Files.fails c.args.files.now c.args.kind c.args.pairs.now) g.W.Write.contents c.args.paths.now c.args.writer.now c.loop-path.writer c.loop-path.worst
    (rw (drop_all c.loop-path.path-index c.args.paths.now (omega arith)) at c.loop-path.invariant)
