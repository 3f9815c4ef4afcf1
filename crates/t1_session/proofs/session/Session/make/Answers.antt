use Rattle.std.proofs.Common.{◌≡◌, Err, None, Ok, ap, map, rules, subst, sym, true}
use Rattle.std.proofs.lemmas.Result.{err_from_is_err_and}
use Rattle.t1_font.specs.Runs.{Counts}
use Rattle.t1_font.specs.RunCounts.{counted}
use Rattle.t1_font.specs.SourceChecks.{source_check}
use Rattle.t1_cache.specs.Recorded.{kept_of}
use Rattle.t1_held.specs.declared.held.ReadyHeld.{ReadyHeld}
use Rattle.t1_source.specs.declared.edit.Cause.{Cause}
use Rattle.t1_source.specs.Changes.{changed, Suits}
use Rattle.t1_source.specs.Editing.{edited}
use Rattle.t1_session.specs.Machine.{judged}
use Rattle.t1_session.specs.OpenBatch.{open_draft}
use Rattle.t1_session.specs.Unnoted.{Took}
use Rattle.t1_session.specs.State.{SessionView, SessionState}
use Rattle.t1_session.proofs.RerunLaws.{edit_prepared, edit_spends, edit_unmade, renewing_runs}
use Rattle.t1_session.proofs.StateLaws.{refused_takes}
use Rattle.t1_session.proofs.session.Session.make.Goals as goal

pub prepare_edit-prepared-requires : goal.prepare_edit-prepared-requires
prepare_edit-prepared-requires c =
    let s = c.self.inside in
    edit_prepared s.source s.pairs s.held c.args.edit.now c.args.change c.self.invariant.0 c.text_of_source_read.ensures
    (subst (λ (v : SessionView). Suits c.args.change v.state.source v.state.pairs) (sym c.self.view_is) c.requires.serves)
    (subst (λ (v : SessionView). edited v.state.source v.state.pairs c.args.edit.now ≡ Ok (changed c.args.change v.state.source v.state.pairs)) (sym c.self.view_is) c.requires.made)

pub returns-in_err-commit-clause-runs : goal.returns-in_err-commit-clause-runs
returns-in_err-commit-clause-runs c =
    let s = c.self.inside in
    let now = c.args.self.now in
    let is = c.self.view_is in
    let p = err_from_is_err_and c.from_residual.result c.from_residual.ensures.1 in
    rw p.1 (edit_unmade now _ s.source (changed c.args.change now.state.source now.state.pairs).0 c.args.edit.now s.meter (map kept_of s.held.records.glyphs.entries)
    (ap (λ v. v.state.source) (sym is)) (ap (λ v. v.kept) (sym is)) (ap (λ v. v.runs) (sym is)) c.in-Ok.ensures.kept
    (subst (λ (v : SessionView). source_check (changed c.args.change v.state.source v.state.pairs).0 ≡ Ok tt) is c.in-Ok.ensures.checked)
    (subst (λ (v : SessionView). c.prepare_edit-prepared.new.meter ≡ counted s.meter (renewing_runs c.args.edit.now s.source (changed c.args.change v.state.source v.state.pairs).0)) is c.in-Ok.ensures.counted))

pub returns-in-Err-clause-took : goal.returns-in-Err-clause-took
returns-in-Err-clause-took c =
    let s = c.self.inside in
    let state : SessionState = record { source = s.source; pairs = s.pairs; batch = open_draft s.source s.pairs s.batch; refused = s.refused } in
    subst (λ (v : SessionView). Took {T = Unit {0}} v.state (judged v.state (changed c.args.change v.state.source v.state.pairs) (source_check (changed c.args.change v.state.source v.state.pairs).0)) true v.state (Err c.cause_of.result) state) c.self.view_is
    (subst (λ (cause : Cause). Took {T = Unit {0}} state (judged state (changed c.args.change s.source s.pairs) (source_check (changed c.args.change s.source s.pairs).0)) true state (Err cause) state) (sym c.cause_of.ensures)
    (refused_takes c.in-Err.refusal state (changed c.args.change s.source s.pairs) c.in-Err.ensures.checked
    (subst (λ (v : SessionView). v.state.batch ≡ None) (sym c.self.view_is) c.requires.none)))

pub returns-in-Err-clause-runs : goal.returns-in-Err-clause-runs
returns-in-Err-clause-runs c =
    let s = c.self.inside in
    let now = c.args.self.now in
    let is = c.self.view_is in
    edit_spends ReadyHeld now _ s.source (changed c.args.change now.state.source now.state.pairs).0 c.args.edit.now s.meter (map kept_of s.held.records.glyphs.entries) c.in-Err.refusal
    (ap (λ v. v.state.source) (sym is)) (ap (λ v. v.kept) (sym is)) (ap (λ v. v.runs) (sym is)) c.in-Err.ensures.kept
    (subst (λ (v : SessionView). Counts {T = ReadyHeld} (renewing_runs c.args.edit.now s.source (changed c.args.change v.state.source v.state.pairs).0) s.meter c.prepare_edit-prepared.new.meter (Err c.in-Err.refusal)) is c.in-Err.ensures.counted)

pub returns-in_err-commit-clause-took : goal.returns-in_err-commit-clause-took
returns-in_err-commit-clause-took c = search rules

pub returns-clause-took : goal.returns-clause-took
returns-clause-took c = search rules

pub returns-clause-runs : goal.returns-clause-runs
returns-clause-runs c = search rules
