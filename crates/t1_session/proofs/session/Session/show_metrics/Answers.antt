use Rattle.std.proofs.Common.{Ok, ap, map, subst, sym, ◌∙◌}
use Rattle.t1_cache.specs.Kept.{KeepsAll}
use Rattle.t1_cache.specs.Renewed.{record_of}
use Rattle.t1_cache.specs.Recorded.{kept_of}
use Rattle.t1_session.specs.State.{SessionView}
use Rattle.t1_session.specs.FromScratch.{metrics_line_from_scratch}
use Rattle.t1_session.specs.RecordedLines.{recorded_line}
use Rattle.t1_session.proofs.StateLaws.{found_scratch, metrics_line_recorded}
use Rattle.t1_session.proofs.session.Session.show_metrics.Goals as goal

pub returns : goal.returns
returns c =
    let s = c.self.inside in
    let now = c.args.self.now.state in
    let name = c.args.name.now in
    let entries = s.held.records.glyphs.entries in
    let kept = subst (λ (v : SessionView). KeepsAll v.state.source (map kept_of entries)) c.self.view_is c.self.invariant.0.right.kept in
    let line = metrics_line_recorded now c.reads_back.ensures.faultless c.reads_back.ensures.source c.reads_back.ensures.pairs entries name kept in
    found_scratch c.metrics_line.result (metrics_line_from_scratch name now) (recorded_line s.source name (record_of entries name)) c.metrics_line.ensures
    (line ∙ sym (ap (λ (v : SessionView). Ok (recorded_line v.state.source name (record_of entries name))) c.self.view_is))
