use Rattle.std.proofs.Common.{rules}
use Rattle.t1_pairs.proofs.PairLaws.{put_new}
use Rattle.t1_pairs.proofs.pairs.Sorted.with.Goals as goal

pub returns : goal.returns
returns c = put_new _ _ c.self.inside.values.entries c.insert.new.self.entries c.args.pair c.args.self c.in_ok-insert.ensures.entries c.into_vec.ensures c.into_vec-2.ensures (search rules) c.self.view_is
