use Rattle.std.proofs.Common.{◌∙◌, ap, length, map, subst}
use Rattle.std.specs.Prelude.{IfOk}
use Rattle.t1_font.specs.Runs.{Counts}
use Rattle.t1_cache.specs.Edited.{stale}
use Rattle.t1_font.specs.OwnedKeys.{key_of}
use Rattle.t1_rerun.specs.Changing.{edited_font}
use Rattle.t1_rerun.specs.Renewals.{IsRenewal}
use Rattle.t1_rerun.proofs.ChangedBodies.{is-edit}
use Rattle.t1_rerun.proofs.changing.rerun_changed.Goals as goal

pub returns-clause-checked : goal.returns-clause-checked
returns-clause-checked g c = λ old new j.
    let ordered = g.O.GlyphOrder.ordered c.args.order.now in
    let keys = ap (map key_of) c.deref.ensures.value ∙ c.in_ok-named.ensures in
    c.rerun.ensures.checked old new
    (is-edit c.args.changes.now old new c.args.records.now ordered j c.deref.result.now keys (edited_font c.in_ok-bodies.bodies) c.in_ok-bodies.ensures)

pub returns-clause-renewal : goal.returns-clause-renewal
returns-clause-renewal g c = λ old new j.
    let ordered = g.O.GlyphOrder.ordered c.args.order.now in
    let keys = ap (map key_of) c.deref.ensures.value ∙ c.in_ok-named.ensures in
    subst (λ ks. IfOk c.rerun.result (IsRenewal ks old new)) keys
    (c.rerun.ensures.renewal old new
    (is-edit c.args.changes.now old new c.args.records.now ordered j c.deref.result.now keys (edited_font c.in_ok-bodies.bodies) c.in_ok-bodies.ensures))

pub returns-clause-counted : goal.returns-clause-counted
returns-clause-counted g c = λ old new j.
    let ordered = g.O.GlyphOrder.ordered c.args.order.now in
    let keys = ap (map key_of) c.deref.ensures.value ∙ c.in_ok-named.ensures in
    subst (λ ks. Counts (length (stale old ks new)) c.args.meter.now c.rerun.new.meter c.rerun.result) keys
    (c.rerun.ensures.counted old new
    (is-edit c.args.changes.now old new c.args.records.now ordered j c.deref.result.now keys (edited_font c.in_ok-bodies.bodies) c.in_ok-bodies.ensures))
