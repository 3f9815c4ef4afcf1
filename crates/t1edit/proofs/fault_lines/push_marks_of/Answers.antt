use Rattle.std.proofs.Common.{◌<◌, codes, get_or, length, arith, refl}
use Rattle.t1edit.proofs.Texts.{one_more}
use Rattle.t1edit.proofs.fault_lines.push_marks_of.Goals as goal

pub loop-byte-preserved : goal.loop-byte-preserved
loop-byte-preserved c =
    let inside : c.loop-byte._byte-index < length c.args.word.now = omega arith in
    one_more (λ c'. codes "^") c.args.word.now c.loop-byte._byte-index 0 (get_or c.args.word.now c.loop-byte._byte-index 0) c.args.text.now.items c.loop-byte.text.items c.extend_from_slice.new.self.items inside refl
    c.loop-byte.invariant c.in_ok-extend_from_slice.ensures.items
