use Rattle.std.proofs.Common.{◌≡◌, ap, length, subst}
use Rattle.std.proofs.lemmas.Result.{err_from_is_err_and}
use Rattle.t1_font.specs.Runs.{Counts}
use Rattle.t1_font.specs.RunCounts.{counted}
use Rattle.t1_cache.specs.Edited.{stale}
use Rattle.t1_rerun.specs.Renewals.{IsRenewal}
use Rattle.t1_rerun.specs.Settled.{changed_keys}
use Rattle.t1_rerun.proofs.ChangedBodies.{as-lent, is-ready}
use Rattle.t1_rerun.proofs.FirstRecords.{counts-done}
use Rattle.t1_rerun.proofs.Preparing.{as-self}
use Rattle.t1_rerun.proofs.Reaching.{counts-same}
use Rattle.t1_rerun.proofs.Traces.{right_traces}
use Rattle.t1_rerun.proofs.changing.prepare_changes.Goals as goal

pub returns-in_err-renewal-clause-checked : goal.returns-in_err-renewal-clause-checked
returns-in_err-renewal-clause-checked g c = λ old new j.
    let ordered = g.O.GlyphOrder.ordered c.args.order.now in
    let p = err_from_is_err_and c.from_residual.result c.from_residual.ensures.1 in
    rw (p.1, p.2) (c.in_err-renewal.ensures.checked old new (as-lent c.deref.result.now c.args.changes.items old new c.args.records.now ordered c.deref.ensures.value j))

pub returns-in_err-renewal-clause-counted : goal.returns-in_err-renewal-clause-counted
returns-in_err-renewal-clause-counted g c = λ old new j.
    let ordered = g.O.GlyphOrder.ordered c.args.order.now in
    let p = err_from_is_err_and c.from_residual.result c.from_residual.ensures.1 in
    counts-same _ _ c.args.meter.now c.rerun_changed.new.meter c.rerun_changed.result c.from_residual.result
    c.in_err-renewal.field-0.0 p.0 c.in_err-renewal.was p.1 p.2 (ap (λ l. length (stale old (changed_keys l) new)) c.deref.ensures.value)
    (c.rerun_changed.ensures.counted old new (as-lent c.deref.result.now c.args.changes.items old new c.args.records.now ordered c.deref.ensures.value j))

pub returns-in_err-renewal-clause-same : goal.returns-in_err-renewal-clause-same
returns-in_err-renewal-clause-same g c = as-self c.args.records.now

pub rerun_changed-requires : goal.rerun_changed-requires
rerun_changed-requires g c = right_traces c.requires.0 c.args.records.now c.requires.1.1.right

pub make_ready-requires : goal.make_ready-requires
make_ready-requires g c = c.requires.1.1.keys

pub returns-in_err-ready-clause-counted : goal.returns-in_err-ready-clause-counted
returns-in_err-ready-clause-counted g c = λ old new j.
    let ordered = g.O.GlyphOrder.ordered c.args.order.now in
    subst (λ l. Counts (length (stale old (changed_keys l) new)) c.args.meter.now c.rerun_changed.new.meter c.from_residual-in_err-ready.result) c.deref.ensures.value
    (counts-done _ c.args.meter.now c.rerun_changed.new.meter c.from_residual-in_err-ready.result
    (c.in_ok-renewal.ensures.counted old new (as-lent c.deref.result.now c.args.changes.items old new c.args.records.now ordered c.deref.ensures.value j)))

pub returns-clause-checked : goal.returns-clause-checked
returns-clause-checked g c = λ old new j.
    let ordered = g.O.GlyphOrder.ordered c.args.order.now in
    c.in_ok-renewal.ensures.checked old new (as-lent c.deref.result.now c.args.changes.items old new c.args.records.now ordered c.deref.ensures.value j)

pub returns-clause-ready : goal.returns-clause-ready
returns-clause-ready g c = λ old new j.
    let ordered = g.O.GlyphOrder.ordered c.args.order.now in
    let lent = as-lent c.deref.result.now c.args.changes.items old new c.args.records.now ordered c.deref.ensures.value j in
    let renewal = c.in_ok-renewal.renewal in
    is-ready c.args.changes.items old new c.args.records.now ordered j
    (c.in_ok-renewal.ensures.checked old new lent) renewal
    (subst (λ l. IsRenewal (changed_keys l) old new renewal) c.deref.ensures.value (c.in_ok-renewal.ensures.renewal old new lent))
    c.args.meter.now c.in_ok-renewal.ensures.later c.make_ready.new.records c.make_ready.ensures.same c.in_ok-ready.ready c.in_ok-ready.ensures.ready

pub returns-clause-counted : goal.returns-clause-counted
returns-clause-counted g c = λ old new j.
    let ordered = g.O.GlyphOrder.ordered c.args.order.now in
    subst (λ l. c.rerun_changed.new.meter ≡ counted c.args.meter.now (length (stale old (changed_keys l) new))) c.deref.ensures.value
    (c.in_ok-renewal.ensures.counted old new (as-lent c.deref.result.now c.args.changes.items old new c.args.records.now ordered c.deref.ensures.value j))
