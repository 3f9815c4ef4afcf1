use Rattle.std.proofs.Common.{◌<◌, length, sym, arith}
use Rattle.t1_parts.proofs.StartLaws.{raise_more, raise_none}
use Rattle.t1_parts.proofs.starts.raise_starts.Goals as goal

pub loop-index-init : goal.loop-index-init
loop-index-init c = (omega arith, sym (raise_none c.args.from c.args.starts.now))

pub overflow_add-starts : goal.overflow_add-starts
overflow_add-starts c =
    let here : c.loop-index.index < length c.args.starts.now = omega (arith, c.loop-index-test.true) in
    let same = (raise_more c.args.from c.loop-index.index c.args.starts.now c.loop-index.starts c.loop-index.invariant.0 here c.loop-index.invariant.1).0 in
    let small = c.requires c.loop-index.index here in
    omega (arith, same, small)

pub loop-index-preserved : goal.loop-index-preserved
loop-index-preserved c =
    let here : c.loop-index.index < length c.args.starts.now = omega (arith, c.loop-index-test.true) in
    let more = raise_more c.args.from c.loop-index.index c.args.starts.now c.loop-index.starts c.loop-index.invariant.0 here c.loop-index.invariant.1 in
    (omega (arith, c.loop-index.invariant.0), more.1)
