use Rattle.std.proofs.Common.{◌≡◌, ◌∙◌, ap, filter, is_some, map, sym, length, subst}
use Rattle.std.specs.Prelude.{◌&&◌}
use Rattle.std.specs.Str.{bytes_eq}
use Rattle.t1_run.specs.Touched.{is_user}
use Rattle.t1_font.specs.Runs.{drawing_in as run_of}
use Rattle.t1_font.specs.RunCounts.{counted}
use Rattle.t1_cache.specs.Renewed.{recorded_run}
use Rattle.std.proofs.lemmas.Result.{err_from_is_err_and}
use Rattle.t1_run.specs.Run.{font}
use Rattle.t1_font.specs.Bodies.{bodies}
use Rattle.t1_cache.specs.Users.{is_name_among}
use Rattle.t1_font.specs.OwnedKeys.{key_of}
use Rattle.t1_cache.specs.Edited.{stale}
use Rattle.std.specs.List.{AllByRecursion, list_any}
use Rattle.t1_rerun.specs.Renewals.{HasRun, IsMeasuredRerun}
use Rattle.t1_rerun.proofs.Gathering.{have-runs}
use Rattle.t1_rerun.proofs.Reaching.{some-all, all-later, has-names, length-map, counts-none, counts-all, counts-same}
use Rattle.t1_rerun.proofs.Reordering.{as-many, first-fault, judged-ok, no-fault, renewal-is, those-are, those-distinct, those-there}
use Rattle.t1_rerun.proofs.judging.rerun_found.Goals as goal

pub returns-in_err-stale-clause-counted : goal.returns-in_err-stale-clause-counted
returns-in_err-stale-clause-counted g c = λ old new e.
    let p = err_from_is_err_and c.from_residual.result c.from_residual.ensures.1 in
    counts-none (length (stale old (map key_of c.args.edits.now) new)) c.args.meter.now c.from_residual.result p.0 p.1 p.2

pub judged-requires-clause-there : goal.judged-requires-clause-there
judged-requires-clause-there g c =
    let m = font (g.B.Bodies.subrs c.args.bodies.now) (g.B.Bodies.glyphs c.args.bodies.now) in
    let keys = c.args.found.now.keys in
    let these = map (λ name. name.now) c.deref.result.now in
    let is = ap (map (λ name. name.now)) c.deref.ensures.value ∙ c.in_ok-stale.ensures
    ∙ ap (λ l. filter (λ x. is_some (m.glyphs x)) (map (λ name. name.now) l)) c.as_slice.ensures.keys in
    some-all m.glyphs c.deref.result.now (those-there m.glyphs keys these is)

pub renewal_of-requires : goal.renewal_of-requires
renewal_of-requires g c =
    let m = font (g.B.Bodies.subrs c.args.bodies.now) (g.B.Bodies.glyphs c.args.bodies.now) in
    let keys = c.args.found.now.keys in
    let these = map (λ name. name.now) c.deref.result.now in
    let is = ap (map (λ name. name.now)) c.deref.ensures.value ∙ c.in_ok-stale.ensures
    ∙ ap (λ l. filter (λ x. is_some (m.glyphs x)) (map (λ name. name.now) l)) c.as_slice.ensures.keys in
    subst (AllByRecursion (HasRun c.in_ok-runs.runs)) (sym c.deref-3.ensures.value)
    (have-runs m these c.args.records.now (those-there m.glyphs keys these is) c.in_ok-runs.runs c.in_ok-runs.ensures.kept c.in_ok-runs.metrics.items
    (judged-ok _ _ c.in_ok-runs.metrics.items c.in_ok-runs.ensures.reported))

pub returns-in_err-runs-clause-checked : goal.returns-in_err-runs-clause-checked
returns-in_err-runs-clause-checked g c = λ old new e.
    let m = font (g.B.Bodies.subrs c.args.bodies.now) (g.B.Bodies.glyphs c.args.bodies.now) in
    let keys = c.args.found.now.keys in
    let these = map (λ name. name.now) c.deref.result.now in
    let is = ap (map (λ name. name.now)) c.deref.ensures.value ∙ c.in_ok-stale.ensures
    ∙ ap (λ l. filter (λ x. is_some (m.glyphs x)) (map (λ name. name.now) l)) c.as_slice.ensures.keys in
    let names = g.O.GlyphOrder.ordered c.args.order.now in
    let found = is_name_among (λ name. name.now) keys in
    let reached = c.requires.stale (bodies old.items) e.right.users in
    let are = those-are m.glyphs keys these is in
    let p = err_from_is_err_and c.from_residual-in_err-runs.result c.from_residual-in_err-runs.ensures.1 in
    rw (p.1, p.2) (first-fault c.args.edits.now old new c.args.records.now m names e found reached these are c.in_err-runs.field-0.0 c.in_err-runs.ensures.reported)

pub returns-in_err-runs-clause-counted : goal.returns-in_err-runs-clause-counted
returns-in_err-runs-clause-counted g c = λ old new e.
    let m = font (g.B.Bodies.subrs c.args.bodies.now) (g.B.Bodies.glyphs c.args.bodies.now) in
    let keys = c.args.found.now.keys in
    let these = map (λ name. name.now) c.deref.result.now in
    let is = ap (map (λ name. name.now)) c.deref.ensures.value ∙ c.in_ok-stale.ensures
    ∙ ap (λ l. filter (λ x. is_some (m.glyphs x)) (map (λ name. name.now) l)) c.as_slice.ensures.keys in
    let names = g.O.GlyphOrder.ordered c.args.order.now in
    let found = is_name_among (λ name. name.now) keys in
    let reached = c.requires.stale (bodies old.items) e.right.users in
    let are = those-are m.glyphs keys these is in
    let equal = sym (length-map (λ name. name.now) c.deref.result.now)
    ∙ as-many c.args.edits.now old new c.args.records.now m names e found reached these are (those-distinct m.glyphs keys these is c.requires.once) in
    let p = err_from_is_err_and c.from_residual-in_err-runs.result c.from_residual-in_err-runs.ensures.1 in
    counts-same (length c.deref.result.now) (length (stale old (map key_of c.args.edits.now) new)) c.args.meter.now c.judged.new.meter c.judged.result c.from_residual-in_err-runs.result
    c.in_err-runs.field-0.0 p.0 (c.in_err-runs.was) p.1 p.2 equal c.judged.ensures.counted

pub returns-in_err-renewal_of-clause-counted : goal.returns-in_err-renewal_of-clause-counted
returns-in_err-renewal_of-clause-counted g c = λ old new e.
    let m = font (g.B.Bodies.subrs c.args.bodies.now) (g.B.Bodies.glyphs c.args.bodies.now) in
    let keys = c.args.found.now.keys in
    let these = map (λ name. name.now) c.deref.result.now in
    let is = ap (map (λ name. name.now)) c.deref.ensures.value ∙ c.in_ok-stale.ensures
    ∙ ap (λ l. filter (λ x. is_some (m.glyphs x)) (map (λ name. name.now) l)) c.as_slice.ensures.keys in
    let names = g.O.GlyphOrder.ordered c.args.order.now in
    let found = is_name_among (λ name. name.now) keys in
    let reached = c.requires.stale (bodies old.items) e.right.users in
    let are = those-are m.glyphs keys these is in
    let equal = sym (length-map (λ name. name.now) c.deref.result.now)
    ∙ as-many c.args.edits.now old new c.args.records.now m names e found reached these are (those-distinct m.glyphs keys these is c.requires.once) in
    let p = err_from_is_err_and c.from_residual-in_err-renewal_of.result c.from_residual-in_err-renewal_of.ensures.1 in
    counts-all (length c.deref.result.now) (length (stale old (map key_of c.args.edits.now) new)) c.args.meter.now c.judged.new.meter c.from_residual-in_err-renewal_of.result
    p.0 p.1 p.2 c.in_ok-runs.ensures.counted equal

pub returns-clause-checked : goal.returns-clause-checked
returns-clause-checked g c = λ old new e.
    let m = font (g.B.Bodies.subrs c.args.bodies.now) (g.B.Bodies.glyphs c.args.bodies.now) in
    let keys = c.args.found.now.keys in
    let these = map (λ name. name.now) c.deref.result.now in
    let is = ap (map (λ name. name.now)) c.deref.ensures.value ∙ c.in_ok-stale.ensures
    ∙ ap (λ l. filter (λ x. is_some (m.glyphs x)) (map (λ name. name.now) l)) c.as_slice.ensures.keys in
    let names = g.O.GlyphOrder.ordered c.args.order.now in
    let found = is_name_among (λ name. name.now) keys in
    let reached = c.requires.stale (bodies old.items) e.right.users in
    let are = those-are m.glyphs keys these is in
    no-fault c.args.edits.now old new c.args.records.now m names e found reached these are c.in_ok-runs.metrics.items c.in_ok-runs.ensures.reported

pub returns-clause-renewal : goal.returns-clause-renewal
returns-clause-renewal g c = λ old new e.
    let m = font (g.B.Bodies.subrs c.args.bodies.now) (g.B.Bodies.glyphs c.args.bodies.now) in
    let keys = c.args.found.now.keys in
    let these = map (λ name. name.now) c.deref.result.now in
    let is = ap (map (λ name. name.now)) c.deref.ensures.value ∙ c.in_ok-stale.ensures
    ∙ ap (λ l. filter (λ x. is_some (m.glyphs x)) (map (λ name. name.now) l)) c.as_slice.ensures.keys in
    let names = g.O.GlyphOrder.ordered c.args.order.now in
    let found = is_name_among (λ name. name.now) keys in
    let reached = c.requires.stale (bodies old.items) e.right.users in
    let are = those-are m.glyphs keys these is in
    let runs = c.in_ok-runs.runs in
    let renewal = c.in_ok-renewal_of.field-0 in
    renewal-is c.args.edits.now old new c.args.records.now m names e found reached these are
    c.in_ok-runs.metrics.items c.in_ok-runs.ensures.reported runs c.in_ok-runs.ensures.kept c.in_ok-runs.ensures.traced renewal
    (subst (λ ms. AllByRecursion (IsMeasuredRerun runs ms) renewal.reruns.items) c.deref-3.ensures.value c.in_ok-renewal_of.ensures.each)
    (λ x. c.in_ok-renewal_of.ensures.names x ∙ ap (list_any (λ y. bytes_eq x y.name)) c.deref-3.ensures.value)
    (λ k u. c.in_ok-renewal_of.ensures.leaves k u ∙ ap (λ l. is_name_among (λ name. name.now) l u && is_user k (recorded_run c.args.records.now u)) c.as_slice-2.ensures.keys)
    (λ k u. c.in_ok-renewal_of.ensures.joins k u
    ∙ ap (λ b. b && is_user k (run_of runs u)) (has-names c.deref-2.result.now u
    ∙ ap (list_any (bytes_eq u)) (ap (map (λ name. name.now)) (c.deref-2.ensures.value ∙ sym c.deref.ensures.value))))

pub returns-clause-later : goal.returns-clause-later
returns-clause-later g c =
    let runs = c.in_ok-runs.runs in
    let metrics = c.in_ok-runs.metrics.items in
    let reruns = c.in_ok-renewal_of.field-0.reruns.items in
    all-later c.args.meter.now runs metrics c.in_ok-runs.ensures.after reruns
    (subst (λ ms. AllByRecursion (IsMeasuredRerun runs ms) reruns) c.deref-3.ensures.value c.in_ok-renewal_of.ensures.each)

pub returns-clause-counted : goal.returns-clause-counted
returns-clause-counted g c = λ old new e.
    let m = font (g.B.Bodies.subrs c.args.bodies.now) (g.B.Bodies.glyphs c.args.bodies.now) in
    let keys = c.args.found.now.keys in
    let these = map (λ name. name.now) c.deref.result.now in
    let is = ap (map (λ name. name.now)) c.deref.ensures.value ∙ c.in_ok-stale.ensures
    ∙ ap (λ l. filter (λ x. is_some (m.glyphs x)) (map (λ name. name.now) l)) c.as_slice.ensures.keys in
    let names = g.O.GlyphOrder.ordered c.args.order.now in
    let found = is_name_among (λ name. name.now) keys in
    let reached = c.requires.stale (bodies old.items) e.right.users in
    let are = those-are m.glyphs keys these is in
    let equal = sym (length-map (λ name. name.now) c.deref.result.now)
    ∙ as-many c.args.edits.now old new c.args.records.now m names e found reached these are (those-distinct m.glyphs keys these is c.requires.once) in
    subst (λ n. c.judged.new.meter ≡ counted c.args.meter.now n) equal c.in_ok-runs.ensures.counted
