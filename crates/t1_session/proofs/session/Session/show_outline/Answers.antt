use Rattle.std.proofs.Common.{◌≡◌, Ok, Result, ap, subst, sym, ◌∙◌}
use Rattle.t1_font.specs.Bodies.{bodies}
use Rattle.t1_font.specs.Runs.{CountsSome}
use Rattle.t1_font.specs.RunCounts.{counted}
use Rattle.t1_cache.specs.Bodies.{record_bodies}
use Rattle.t1_outline.specs.Counting.{outline_runs}
use Rattle.t1_outline.specs.Laws.{StoredOutline}
use Rattle.t1_outline.specs.Shown.{source_outline}
use Rattle.t1_session.specs.State.{SessionView}
use Rattle.t1_session.proofs.StateLaws.{held_checked, outline_scratch}
use Rattle.t1_session.proofs.session.Session.show_outline.Goals as goal

pub returns-in-Ok-clause-shown : goal.returns-in-Ok-clause-shown
returns-in-Ok-clause-shown c =
    let s = c.self.inside in
    let name = c.args.name.now in
    let law = c.a_source_shows_its_outlines.ensures.stored (record_bodies s.held.records) s.source name (held_checked s.source s.held c.self.invariant.0) c.self.invariant.0.right.compiled in
    outline_scratch c.args.self.now.state name c.reads_back.ensures.source
    ∙ sym (ap (λ (v : SessionView). source_outline v.state.source name) c.self.view_is)
    ∙ sym law.text ∙ c.in-Ok.ensures.shown

pub returns-in-Ok-clause-runs : goal.returns-in-Ok-clause-runs
returns-in-Ok-clause-runs c =
    let s = c.self.inside in
    let name = c.args.name.now in
    let law = c.a_source_shows_its_outlines.ensures.stored (record_bodies s.held.records) s.source name (held_checked s.source s.held c.self.invariant.0) c.self.invariant.0.right.compiled in
    subst (λ (v : SessionView). c.glyph_outline.new.meter ≡ counted v.runs (outline_runs (bodies v.state.source.items) name)) c.self.view_is
    (c.in-Ok.ensures.runs ∙ ap (counted s.meter) law.runs)

pub returns-clause-runs : goal.returns-clause-runs
returns-clause-runs c =
    let s = c.self.inside in
    let name = c.args.name.now in
    let law = c.a_source_shows_its_outlines.ensures.stored (record_bodies s.held.records) s.source name (held_checked s.source s.held c.self.invariant.0) c.self.invariant.0.right.compiled in
    subst (λ (v : SessionView). CountsSome (outline_runs (bodies v.state.source.items) name) v.runs c.glyph_outline.new.meter) c.self.view_is
    (subst (λ n. CountsSome n s.meter c.glyph_outline.new.meter) law.runs c.in-Err.ensures.fewer)
