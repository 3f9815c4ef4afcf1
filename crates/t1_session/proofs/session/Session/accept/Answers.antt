use Rattle.std.proofs.Common.{◌≡◌, List, None, ap, map, rules, subst, sym}
use Rattle.std.specs.List.{AllByRecursion}
use Rattle.t1_parts.specs.SourceParts.{SourceParts}
use Rattle.t1_cache.specs.Recorded.{kept_of, RecordedGlyph}
use Rattle.t1_held.specs.Batch.{entry_edit, keys}
use Rattle.t1_held.specs.Held.{IsHeld}
use Rattle.t1_held.specs.declared.held.ReadyHeld.{ReadyHeld}
use Rattle.t1_rerun.specs.Renewing.{IsRunWhereStale}
use Rattle.t1_session.specs.State.{SessionView}
use Rattle.t1_session.proofs.BatchLaws.{closed_open}
use Rattle.t1_session.proofs.RefusalLaws.{batch_faulty}
use Rattle.t1_session.proofs.RerunLaws.{edits_renew, edits_spend}
use Rattle.t1_session.proofs.session.Session.accept.Goals as goal

pub returns-in-Err-clause-runs : goal.returns-in-Err-clause-runs
returns-in-Err-clause-runs c =
    let s = c.self.inside in
    let is = c.self.view_is in
    edits_spend ReadyHeld c.args.self.now _ s.source c.args.source (keys (map entry_edit c.args.edits.entries.items)) s.meter
    (map kept_of s.held.records.glyphs.entries) c.in-Err.refusal
    (ap (λ v. v.state.source) (sym is)) (ap (λ v. v.kept) (sym is)) (ap (λ v. v.runs) (sym is)) c.in-Err.ensures.kept c.in-Err.ensures.counted

pub returns-in-Err-clause-took : goal.returns-in-Err-clause-took
returns-in-Err-clause-took c = search rules

pub returns-clause-took : goal.returns-clause-took
returns-clause-took c = search rules

pub returns-clause-runs : goal.returns-clause-runs
returns-clause-runs c =
    let s = c.self.inside in
    let is = c.self.view_is in
    edits_renew c.args.self.now _ s.source c.args.source (keys (map entry_edit c.args.edits.entries.items)) s.meter
    (map kept_of s.held.records.glyphs.entries)
    (ap (λ v. v.state.source) (sym is)) (ap (λ v. v.kept) (sym is)) (ap (λ v. v.runs) (sym is))
    c.in-Ok.ensures.checked c.in-Ok.ensures.counted
    (subst (λ (kept : List RecordedGlyph). AllByRecursion (IsRunWhereStale s.meter (keys (map entry_edit c.args.edits.entries.items)) s.source kept) (map kept_of c.settle.new.held.records.glyphs.entries)) c.in-Ok.ensures.kept
    (c.settle.ensures.renews s.meter (keys (map entry_edit c.args.edits.entries.items)) s.source c.args.source c.in-Ok.ensures.ready))

pub returns-in-Err-clause-faulty : goal.returns-in-Err-clause-faulty
returns-in-Err-clause-faulty c = batch_faulty c.in-Err.refusal c.args.source _ _ c.refused_batch-cause.ensures.cause c.refused_batch-cause.ensures.kept

pub invariant_of-self-2 : goal.invariant_of-self-2
invariant_of-self-2 c =
    let s = c.self.inside in (
      subst (λ (source : SourceParts). IsHeld source c.settle.new.held) (sym c.replace-source.ensures.after) (c.settle.ensures.held s.meter (keys (map entry_edit c.args.edits.entries.items)) s.source c.args.source c.in-Ok.ensures.ready),
      closed_open s.source _ s.pairs c.args.pairs s.batch c.self.invariant.1 (subst (λ (v : SessionView). v.state.batch ≡ None) (sym c.self.view_is) c.requires.none),
    )
