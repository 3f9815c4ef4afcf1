use Rattle.std.proofs.Common.{map}
use Rattle.t1_cache.specs.Recorded.{kept_of}
use Rattle.t1_rerun.specs.Settled.{changed_keys}
use Rattle.t1_held.proofs.CommitLaws.{run-where-stale}
use Rattle.t1_held.proofs.held.settle.Goals as goal

pub returns-clause-held : goal.returns-clause-held
returns-clause-held c = λ n ks s made r. record {
  right = c.settle_ready.ensures.right n r.changes s made r.records;
  encrypted = c.settle_lines.ensures.kept made r.lines;
  len = c.settle_lines.ensures.len made r.lines;
}

pub returns-clause-renews : goal.returns-clause-renews
returns-clause-renews c = λ n ks s made r.
    run-where-stale n (changed_keys r.changes) ks s (map kept_of c.args.held.now.records.glyphs.entries) (map kept_of c.settle_ready.new.records.glyphs.entries) r.same
    (c.settle_ready.ensures.renews n r.changes s made r.records)
