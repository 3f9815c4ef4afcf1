use Rattle.std.proofs.Common.{None}
use Rattle.std.specs.Map.{lookup}
use Rattle.t1_faults.specs.GlyphRuns.{is_at}
use Rattle.t1_faults.proofs.KeptLaws.{kept_after}
use Rattle.t1_faults.proofs.met.taken.Goals as goal

pub returns-in-Some-clause-others : goal.returns-in-Some-clause-others
returns-in-Some-clause-others c = λ n k.
    kept_after n k c.args.subr c.args.word (lookup (is_at n k) c.args.met.now.entries) (lookup (is_at n k) c.swap_remove.new.self.entries) None
    (c.in-Some.ensures.updates.0 (n, k))
