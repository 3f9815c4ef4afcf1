use Rattle.std.proofs.Common.{None}
use Rattle.std.specs.Prelude.{nat_eq}
use Rattle.std.specs.Map.{lookup}
use Rattle.t1_faults.proofs.CompositeLaws.{kept_by_number}
use Rattle.t1_faults.proofs.composites.taken.Goals as goal

pub returns-in-Some-clause-others : goal.returns-in-Some-clause-others
returns-in-Some-clause-others c = λ n.
    kept_by_number n c.args.number (lookup (nat_eq n) c.args.composites.now.entries) (lookup (nat_eq n) c.swap_remove.new.self.entries) None
    (c.in-Some.ensures.updates.0 n)
