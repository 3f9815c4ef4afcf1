use Rattle.std.proofs.Common.{Some}
use Rattle.std.specs.Prelude.{nat_eq}
use Rattle.std.specs.Map.{lookup}
use Rattle.t1_faults.proofs.CompositeLaws.{kept_by_number}
use Rattle.t1_faults.proofs.composites.keep.Goals as goal

pub returns : goal.returns
returns c = λ n.
    kept_by_number n c.args.number (lookup (nat_eq n) c.args.composites.now.entries) (lookup (nat_eq n) c.insert.new.self.entries) (Some c.args.names)
    (c.in_ok-insert.ensures.updates.0 n)
