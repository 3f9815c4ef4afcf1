use Rattle.std.proofs.Common.{◌<◌, length, sym, arith}
use Rattle.t1_parts.proofs.StartLaws.{lower_more, lower_none}
use Rattle.t1_parts.proofs.starts.lower_starts.Goals as goal

pub loop-index-init : goal.loop-index-init
loop-index-init c = (omega arith, sym (lower_none c.args.from c.args.starts.now))

pub overflow_sub-starts : goal.overflow_sub-starts
overflow_sub-starts c =
    let here : c.loop-index.index < length c.args.starts.now = omega (arith, c.loop-index-test.true) in
    let same = (lower_more c.args.from c.loop-index.index c.args.starts.now c.loop-index.starts c.loop-index.invariant.0 here c.loop-index.invariant.1).0 in
    let some = c.requires c.loop-index.index c.loop-index.invariant.0 here in
    omega (arith, same, some)

pub loop-index-preserved : goal.loop-index-preserved
loop-index-preserved c =
    let here : c.loop-index.index < length c.args.starts.now = omega (arith, c.loop-index-test.true) in
    let more = lower_more c.args.from c.loop-index.index c.args.starts.now c.loop-index.starts c.loop-index.invariant.0 here c.loop-index.invariant.1 in
    (omega (arith, c.loop-index.invariant.0), more.1)
