use Rattle.std.proofs.Common.{sym, subst}
use Rattle.t1_source.specs.WellFormed.{IsWellFormed}
use Rattle.t1_source.proofs.ChangeLaws.{put_seen}
use Rattle.t1_source.proofs.source.Source.put_item.Goals as goal

pub invariant_of-self-2 : goal.invariant_of-self-2
invariant_of-self-2 c = subst IsWellFormed (sym (put_seen _ _ c.args.at c.args.item _ c.self.invariant c.self.view_is c.requires.within c.requires.kind c.in_ok-put.ensures.ok)) c.requires.made

pub returns-clause-ok : goal.returns-clause-ok
returns-clause-ok c = put_seen _ _ c.args.at c.args.item _ c.self.invariant c.self.view_is c.requires.within c.requires.kind c.in_ok-put.ensures.ok
