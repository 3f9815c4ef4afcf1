use Rattle.std.proofs.Common.{refl}
use Rattle.t1_session.proofs.StateLaws.{no_fault}
use Rattle.t1_session.proofs.session.Session.print_source.Goals as goal

pub returns-clause-no_fault : goal.returns-clause-no_fault
returns-clause-no_fault g c = no_fault g.W.Write.contents c.args.out.now c.put_text.new.out _ _ c.put_text.result refl c.put_text.ensures
