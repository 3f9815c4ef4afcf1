use Rattle.std.proofs.Common.{◌≡◌, Ok, subst}
use Rattle.std.specs.Prelude.{IfOk}
use Rattle.t1_font.specs.FontMetrics.{metrics_of}
use Rattle.t1_font.specs.MeasuredGlyphs.{MeasuredFont}
use Rattle.t1_font.specs.SourceChecks.{measured_source}
use Rattle.t1_session.specs.State.{SessionView}
use Rattle.t1_session.proofs.StateLaws.{still_ok}
use Rattle.t1_session.proofs.session.Session.metrics.Goals as goal

pub returns : goal.returns
returns c =
    subst
    (λ (v : SessionView). IfOk c.recorded_metrics.result
    (λ metrics. (font : MeasuredFont) → measured_source v.state.source ≡ Ok font → metrics ≡ metrics_of v.state.source v.state.pairs font))
    c.self.view_is
    (still_ok c.recorded_metrics.result (λ metrics. λ said. said c.self.invariant.0.right) c.recorded_metrics.ensures)
