use Rattle.std.proofs.Common.{Some}
use Rattle.std.specs.Map.{lookup}
use Rattle.t1_faults.specs.GlyphRuns.{is_at}
use Rattle.t1_faults.proofs.KeptLaws.{kept_after}
use Rattle.t1_faults.proofs.met.keep.Goals as goal

pub returns : goal.returns
returns c = λ n k.
    kept_after n k c.args.subr c.args.word (lookup (is_at n k) c.args.met.now.entries) (lookup (is_at n k) c.insert.new.self.entries) (Some c.args.faults)
    (c.in_ok-insert.ensures.updates.0 (n, k))
