use Rattle.t1_code.specs.Pfb.{whole_file}
use Rattle.t1_session.proofs.StateLaws.{blocks_made, held_checked, no_fault}
use Rattle.t1_session.proofs.session.Session.print_pfb.Goals as goal

pub returns-clause-no_fault : goal.returns-clause-no_fault
returns-clause-no_fault g c =
    let s = c.self.inside in
    let made = blocks_made s.source whole_file (held_checked s.source s.held c.self.invariant.0) in
    let wrote = rw c.new-size.ensures at c.write_held_file.ensures in
    no_fault g.W.Write.contents c.args.out.now c.write_held_file.new.out _ made.0 c.write_held_file.result made.1 wrote
