use Rattle.std.proofs.Common.{ℕ, ap, ◌∙◌, List, Ok, Result, subst, sym}
use Rattle.t1_frac.specs.declared.fault.Fault.{Fault}
use Rattle.t1_code.specs.Parts.{Prints}
use Rattle.t1_afm.specs.Afm.{FontMetrics, afm}
use Rattle.t1_session.specs.FromScratch.{metrics_from_scratch}
use Rattle.t1_session.proofs.StateLaws.{checked-metrics, metrics_scratch, metrics_there, no_fault}
use Rattle.t1_session.proofs.session.Session.print_afm.Goals as goal

pub returns-clause-prints : goal.returns-clause-prints
returns-clause-prints g c =
    let s = c.args.self.now.state in
    let font = checked-metrics s.source c.reads_back.ensures.faultless in
    let same = metrics_scratch s font.0 font.1 c.reads_back.ensures.source c.reads_back.ensures.pairs in
    let said = ap (λ (m : FontMetrics). Ok (afm m)) (c.in_ok-metrics.ensures font.0 font.1) in
    subst (λ (text : Result (List ℕ) Fault). Prints g.W.Write.contents c.args.out.now c.write_afm.new.out text c.write_afm.result) (said ∙ sym same) c.write_afm.ensures.prints

pub returns-clause-no_fault : goal.returns-clause-no_fault
returns-clause-no_fault g c =
    let s = c.args.self.now.state in
    let there = metrics_there s c.reads_back.ensures.faultless c.reads_back.ensures.source c.reads_back.ensures.pairs in
    no_fault g.W.Write.contents c.args.out.now c.write_afm.new.out (metrics_from_scratch s) there.0 c.write_afm.result there.1 (returns-clause-prints g c)
