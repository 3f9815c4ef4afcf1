use Rattle.std.proofs.Common.{map}
use Rattle.t1_cache.specs.Recorded.{kept_of}
use Rattle.t1_rerun.specs.Settled.{changed_keys}
use Rattle.t1_rerun.proofs.Judged.{all-later-kept}
use Rattle.t1_rerun.proofs.settling.settle_ready.Goals as goal

pub settle-requires : goal.settle-requires
settle-requires c =
    let is = c.requires in
    record {
      changes = is.changes;
      renewal = is.prepared.renewal;
      prepared = is.prepared.prepared;
      judged = (is.old, (is.new, is.prepared.judged));
    }

pub returns-clause-right : goal.returns-clause-right
returns-clause-right c = λ count changes old new is. c.settle.ensures.right changes is.renewal is.prepared old new is.judged

pub returns-clause-renews : goal.returns-clause-renews
returns-clause-renews c = λ count changes old new is.
    all-later-kept count (changed_keys changes) old is.renewal.reruns.items is.later
    (map kept_of c.args.records.now.glyphs.entries) (map kept_of c.settle.new.records.glyphs.entries)
    (c.settle.ensures.renews changes is.renewal is.prepared old new is.judged)
