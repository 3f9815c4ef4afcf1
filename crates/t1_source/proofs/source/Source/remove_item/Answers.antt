use Rattle.std.proofs.Common.{sym, subst}
use Rattle.t1_source.specs.WellFormed.{IsWellFormed}
use Rattle.t1_source.proofs.ChangeLaws.{removed_seen}
use Rattle.t1_source.proofs.source.Source.remove_item.Goals as goal

pub invariant_of-self-2 : goal.invariant_of-self-2
invariant_of-self-2 c = subst IsWellFormed (sym (removed_seen _ _ c.args.at _ c.self.invariant c.self.view_is c.in_ok-take_out.ensures.ok)) c.requires.made

pub returns-clause-ok : goal.returns-clause-ok
returns-clause-ok c = removed_seen _ _ c.args.at _ c.self.invariant c.self.view_is c.in_ok-take_out.ensures.ok
