use Rattle.std.proofs.Common.{ap, ◌∙◌, Ok, sym}
use Rattle.t1_afm.specs.Afm.{FontMetrics, afm}
use Rattle.t1_session.proofs.StateLaws.{afm_shown, checked-metrics, metrics_scratch}
use Rattle.t1_session.proofs.session.Session.metrics_text.Goals as goal

pub returns : goal.returns
returns c =
    let s = c.args.self.now.state in
    let font = checked-metrics s.source c.reads_back.ensures.faultless in
    let known = metrics_scratch s font.0 font.1 c.reads_back.ensures.source c.reads_back.ensures.pairs
    ∙ sym (ap (λ (m : FontMetrics). Ok (afm m)) (c.in_ok-metrics.ensures font.0 font.1)) in
    afm_shown c.afm_text.result s (afm c.in_ok-metrics.metrics) c.afm_text.ensures known
