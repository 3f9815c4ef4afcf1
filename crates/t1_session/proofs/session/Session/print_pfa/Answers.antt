use Rattle.t1_session.proofs.StateLaws.{held_checked, no_fault, pfa_made}
use Rattle.t1_session.proofs.session.Session.print_pfa.Goals as goal

pub returns-clause-no_fault : goal.returns-clause-no_fault
returns-clause-no_fault g c =
    let s = c.self.inside in
    let made = pfa_made s.source (held_checked s.source s.held c.self.invariant.0) in
    no_fault g.W.Write.contents c.args.out.now c.write_held_file.new.out _ made.0 c.write_held_file.result made.1 c.write_held_file.ensures
