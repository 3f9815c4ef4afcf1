use Rattle.std.proofs.Common.{◌≡◌, ap, subst, sym, ◌∙◌, ◌-◌}
use Rattle.std.specs.Prelude.{Ok}
use Rattle.std.proofs.lemmas.Result.{err_from_is_err_and}
use Rattle.t1_frac.specs.Outcome.{Gives, Refuses, reported_at}
use Rattle.t1_frac.specs.declared.fault.Code.TheVariants.{F46}
use Rattle.t1_frac.specs.declared.fault.Place.TheVariants.{Nowhere}
use Rattle.t1_frac.proofs.OutcomeLaws.{on_err}
use Rattle.t1_run.specs.Composite.{outline_within}
use Rattle.t1_run.specs.Run.{font, own}
use Rattle.t1_run.proofs.Continuing.{lacking}
use Rattle.t1_extent.proofs.Walking.{lonely, refuses-code}
use Rattle.t1_font.specs.Runs.{CountsSome}
use Rattle.t1_font.specs.RunCounts.{counted}
use Rattle.t1_outline.specs.Counting.{runs_within}
use Rattle.t1_outline.proofs.Counts.{none_of, all_of, all_counted, on_ok, parts_counted, base_counted, accent_counted}
use Rattle.t1_outline.proofs.Nesting.{body_there, no_body, own_missing, run_drew, run_refused, missing, nested_too_deep, base_refused, accent_refused, joined_both, runs_lonely, runs_composed, run_once}
use Rattle.t1_outline.proofs.outlining.+nested_outline.Goals as goal

pub returns-in_err-body-clause-drawn : goal.returns-in_err-body-clause-drawn
returns-in_err-body-clause-drawn g t c =
    let m = font (g.B.Bodies.subrs c.args.bodies.now) (g.B.Bodies.glyphs c.args.bodies.now) in
    let p = err_from_is_err_and c.from_residual.result c.from_residual.ensures.1 in
    let none = lacking _ _ _ c.in_err-body.ensures.value in
    let absent = own_missing m c.args.name.now (no_body c.glyph.ensures none.0) in
    rw (p.1, p.2, none.1) (ap (reported_at Nowhere) (missing (own m) c.args.depth c.args.name.now absent))

pub returns-in_err-body-clause-fewer : goal.returns-in_err-body-clause-fewer
returns-in_err-body-clause-fewer g t c =
    let m = font (g.B.Bodies.subrs c.args.bodies.now) (g.B.Bodies.glyphs c.args.bodies.now) in
    on_err c.from_residual.result (none_of (runs_within (own m) c.args.depth c.args.name.now) c.args.meter.now)

pub returns-in_err-run-clause-drawn : goal.returns-in_err-run-clause-drawn
returns-in_err-run-clause-drawn g t c =
    let m = font (g.B.Bodies.subrs c.args.bodies.now) (g.B.Bodies.glyphs c.args.bodies.now) in
    let there = body_there c.glyph.ensures c.in_ok-body.ensures.ok_part in
    let p = err_from_is_err_and c.from_residual-in_err-run.result c.from_residual-in_err-run.ensures.1 in
    rw (p.1, p.2) (run_refused (own m) c.args.depth c.args.name.now c.in_err-run.field-0.0 (c.in_err-run.ensures.outcome c.args.name.now there))

pub returns-in_err-run-clause-fewer : goal.returns-in_err-run-clause-fewer
returns-in_err-run-clause-fewer g t c =
    let m = font (g.B.Bodies.subrs c.args.bodies.now) (g.B.Bodies.glyphs c.args.bodies.now) in
    let there = body_there c.glyph.ensures c.in_ok-body.ensures.ok_part in
    on_err c.from_residual-in_err-run.result
    (all_of (runs_within (own m) c.args.depth c.args.name.now) c.args.meter.now c.run_of_body.new.meter 1 c.run_of_body.ensures.counted
    (run_once m c.args.depth c.args.name.now c.in_ok-body.body.now there))

pub returns-in_err-from_slice-clause-fewer : goal.returns-in_err-from_slice-clause-fewer
returns-in_err-from_slice-clause-fewer g t c =
    let m = font (g.B.Bodies.subrs c.args.bodies.now) (g.B.Bodies.glyphs c.args.bodies.now) in
    let there = body_there c.glyph.ensures c.in_ok-body.ensures.ok_part in
    on_err c.from_residual-in_err-from_slice.result
    (all_of (runs_within (own m) c.args.depth c.args.name.now) c.args.meter.now c.run_of_body.new.meter 1 c.run_of_body.ensures.counted
    (run_once m c.args.depth c.args.name.now c.in_ok-body.body.now there))

pub returns-in_default-clause-drawn : goal.returns-in_default-clause-drawn
returns-in_default-clause-drawn g t c =
    let m = font (g.B.Bodies.subrs c.args.bodies.now) (g.B.Bodies.glyphs c.args.bodies.now) in
    let there = body_there c.glyph.ensures c.in_ok-body.ensures.ok_part in
    let d = c.in_ok-run.run'.drawing in
    let drew = run_drew (own m c.args.name.now) c.in_ok-run.run' (c.in_ok-run.ensures.outcome c.args.name.now there) in
    ap (reported_at Nowhere) (lonely (own m) c.args.depth c.args.name.now d drew c.in_default.ensures.parts)
    ∙ ap Ok (sym (c.in_ok-from_slice.ensures.items ∙ c.segments.ensures.value))

pub returns-in_default-clause-runs : goal.returns-in_default-clause-runs
returns-in_default-clause-runs g t c =
    let m = font (g.B.Bodies.subrs c.args.bodies.now) (g.B.Bodies.glyphs c.args.bodies.now) in
    let there = body_there c.glyph.ensures c.in_ok-body.ensures.ok_part in
    let d = c.in_ok-run.run'.drawing in
    let drew = run_drew (own m c.args.name.now) c.in_ok-run.run' (c.in_ok-run.ensures.outcome c.args.name.now there) in
    c.run_of_body.ensures.counted ∙ ap (counted c.args.meter.now) (sym (runs_lonely (own m) c.args.depth c.args.name.now d drew c.in_default.ensures.parts))

pub returns-then-depth-eq0-clause-drawn : goal.returns-then-depth-eq0-clause-drawn
returns-then-depth-eq0-clause-drawn g t c =
    let m = font (g.B.Bodies.subrs c.args.bodies.now) (g.B.Bodies.glyphs c.args.bodies.now) in
    let there = body_there c.glyph.ensures c.in_ok-body.ensures.ok_part in
    let d = c.in_ok-run.run'.drawing in
    let drew = run_drew (own m c.args.name.now) c.in_ok-run.run' (c.in_ok-run.ensures.outcome c.args.name.now there) in
    refuses-code c.from.result F46 (outline_within (own m) c.args.depth c.args.name.now) c.from.ensures
    (nested_too_deep (own m) c.args.depth c.args.name.now d c.in-Some.parts.now c.if-depth-eq0.true drew c.in-Some.ensures.parts)

pub returns-then-depth-eq0-clause-fewer : goal.returns-then-depth-eq0-clause-fewer
returns-then-depth-eq0-clause-fewer g t c =
    let m = font (g.B.Bodies.subrs c.args.bodies.now) (g.B.Bodies.glyphs c.args.bodies.now) in
    let there = body_there c.glyph.ensures c.in_ok-body.ensures.ok_part in
    all_of (runs_within (own m) c.args.depth c.args.name.now) c.args.meter.now c.run_of_body.new.meter 1 c.run_of_body.ensures.counted
    (run_once m c.args.depth c.args.name.now c.in_ok-body.body.now there)

pub returns-in_err-base-clause-drawn : goal.returns-in_err-base-clause-drawn
returns-in_err-base-clause-drawn g t c =
    let m = font (g.B.Bodies.subrs c.args.bodies.now) (g.B.Bodies.glyphs c.args.bodies.now) in
    let there = body_there c.glyph.ensures c.in_ok-body.ensures.ok_part in
    let d = c.in_ok-run.run'.drawing in
    let drew = run_drew (own m c.args.name.now) c.in_ok-run.run' (c.in_ok-run.ensures.outcome c.args.name.now there) in
    let parts = c.in-Some.parts.now in
    let part = outline_within (own m) (c.args.depth - 1) in
    let base = subst (λ n. Refuses c.in_err-base.field-0.0 (reported_at Nowhere (part n))) c.as_slice.ensures c.in_err-base.ensures.drawn in
    let p = err_from_is_err_and c.from_residual-in_err-base.result c.from_residual-in_err-base.ensures.1 in
    rw (p.1, p.2) (base_refused (own m) c.args.depth c.args.name.now d parts c.if-depth-eq0.false drew c.in-Some.ensures.parts c.in_err-base.field-0.0 base)

pub returns-in_err-base-clause-fewer : goal.returns-in_err-base-clause-fewer
returns-in_err-base-clause-fewer g t c =
    let m = font (g.B.Bodies.subrs c.args.bodies.now) (g.B.Bodies.glyphs c.args.bodies.now) in
    let there = body_there c.glyph.ensures c.in_ok-body.ensures.ok_part in
    let d = c.in_ok-run.run'.drawing in
    let drew = run_drew (own m c.args.name.now) c.in_ok-run.run' (c.in_ok-run.ensures.outcome c.args.name.now there) in
    let parts = c.in-Some.parts.now in
    let part = runs_within (own m) (c.args.depth - 1) in
    let whole = runs_composed (own m) c.args.depth c.args.name.now d parts c.if-depth-eq0.false drew c.in-Some.ensures.parts in
    let base = subst (λ n. CountsSome (part n) c.run_of_body.new.meter c.nested_outline.new.meter) c.as_slice.ensures c.in_err-base.ensures.fewer in
    on_err c.from_residual-in_err-base.result
    (base_counted c.args.meter.now c.run_of_body.new.meter c.nested_outline.new.meter (part parts.base) (part parts.accent) (runs_within (own m) c.args.depth c.args.name.now)
    c.run_of_body.ensures.counted base whole)

pub returns-in_err-accent-clause-drawn : goal.returns-in_err-accent-clause-drawn
returns-in_err-accent-clause-drawn g t c =
    let m = font (g.B.Bodies.subrs c.args.bodies.now) (g.B.Bodies.glyphs c.args.bodies.now) in
    let there = body_there c.glyph.ensures c.in_ok-body.ensures.ok_part in
    let d = c.in_ok-run.run'.drawing in
    let drew = run_drew (own m c.args.name.now) c.in_ok-run.run' (c.in_ok-run.ensures.outcome c.args.name.now there) in
    let parts = c.in-Some.parts.now in
    let part = outline_within (own m) (c.args.depth - 1) in
    let base = subst (λ n. reported_at Nowhere (part n) ≡ Ok c.in_ok-base.base.items) c.as_slice.ensures c.in_ok-base.ensures.drawn in
    let accent = subst (λ n. Refuses c.in_err-accent.field-0.0 (reported_at Nowhere (part n))) c.as_slice-2.ensures c.in_err-accent.ensures.drawn in
    let p = err_from_is_err_and c.from_residual-in_err-accent.result c.from_residual-in_err-accent.ensures.1 in
    rw (p.1, p.2) (accent_refused (own m) c.args.depth c.args.name.now d parts c.if-depth-eq0.false drew c.in-Some.ensures.parts c.in_ok-base.base.items c.in_err-accent.field-0.0 base accent)

pub returns-in_err-accent-clause-fewer : goal.returns-in_err-accent-clause-fewer
returns-in_err-accent-clause-fewer g t c =
    let m = font (g.B.Bodies.subrs c.args.bodies.now) (g.B.Bodies.glyphs c.args.bodies.now) in
    let there = body_there c.glyph.ensures c.in_ok-body.ensures.ok_part in
    let d = c.in_ok-run.run'.drawing in
    let drew = run_drew (own m c.args.name.now) c.in_ok-run.run' (c.in_ok-run.ensures.outcome c.args.name.now there) in
    let parts = c.in-Some.parts.now in
    let part = runs_within (own m) (c.args.depth - 1) in
    let whole = runs_composed (own m) c.args.depth c.args.name.now d parts c.if-depth-eq0.false drew c.in-Some.ensures.parts in
    let base = subst (λ n. c.nested_outline.new.meter ≡ counted c.run_of_body.new.meter (part n)) c.as_slice.ensures c.in_ok-base.ensures.runs in
    let accent = subst (λ n. CountsSome (part n) c.nested_outline.new.meter c.nested_outline-2.new.meter) c.as_slice-2.ensures c.in_err-accent.ensures.fewer in
    on_err c.from_residual-in_err-accent.result
    (accent_counted c.args.meter.now c.run_of_body.new.meter c.nested_outline.new.meter c.nested_outline-2.new.meter (part parts.base) (part parts.accent)
    (runs_within (own m) c.args.depth c.args.name.now) c.run_of_body.ensures.counted base accent whole)

pub returns-clause-drawn : goal.returns-clause-drawn
returns-clause-drawn g t c =
    let m = font (g.B.Bodies.subrs c.args.bodies.now) (g.B.Bodies.glyphs c.args.bodies.now) in
    let there = body_there c.glyph.ensures c.in_ok-body.ensures.ok_part in
    let d = c.in_ok-run.run'.drawing in
    let drew = run_drew (own m c.args.name.now) c.in_ok-run.run' (c.in_ok-run.ensures.outcome c.args.name.now there) in
    let parts = c.in-Some.parts.now in
    let part = outline_within (own m) (c.args.depth - 1) in
    let base = subst (λ n. reported_at Nowhere (part n) ≡ Ok c.in_ok-base.base.items) c.as_slice.ensures c.in_ok-base.ensures.drawn in
    let accent = subst (λ n. reported_at Nowhere (part n) ≡ Ok c.in_ok-accent.accent.items) c.as_slice-2.ensures c.in_ok-accent.ensures.drawn in
    let outline = joined_both (own m) c.args.depth c.args.name.now d parts c.if-depth-eq0.false drew c.in-Some.ensures.parts c.as_slice-3.result.now c.as_slice-4.result.now (base ∙ ap Ok (sym c.as_slice-3.ensures.value))
    (accent ∙ ap Ok (sym c.as_slice-4.ensures.value)) in
    subst (λ r. Gives (λ made. made.items) c.join.result (reported_at Nowhere r)) (sym outline) c.join.ensures.joined

pub returns-clause-runs : goal.returns-clause-runs
returns-clause-runs g t c =
    let m = font (g.B.Bodies.subrs c.args.bodies.now) (g.B.Bodies.glyphs c.args.bodies.now) in
    let there = body_there c.glyph.ensures c.in_ok-body.ensures.ok_part in
    let d = c.in_ok-run.run'.drawing in
    let drew = run_drew (own m c.args.name.now) c.in_ok-run.run' (c.in_ok-run.ensures.outcome c.args.name.now there) in
    let parts = c.in-Some.parts.now in
    let part = runs_within (own m) (c.args.depth - 1) in
    let whole = runs_composed (own m) c.args.depth c.args.name.now d parts c.if-depth-eq0.false drew c.in-Some.ensures.parts in
    let base = subst (λ n. c.nested_outline.new.meter ≡ counted c.run_of_body.new.meter (part n)) c.as_slice.ensures c.in_ok-base.ensures.runs in
    let accent = subst (λ n. c.nested_outline-2.new.meter ≡ counted c.nested_outline.new.meter (part n)) c.as_slice-2.ensures c.in_ok-accent.ensures.runs in
    on_ok c.join.result
    (parts_counted c.args.meter.now c.run_of_body.new.meter c.nested_outline.new.meter c.nested_outline-2.new.meter (part parts.base) (part parts.accent)
    (runs_within (own m) c.args.depth c.args.name.now) c.run_of_body.ensures.counted base accent whole)

pub returns-clause-fewer : goal.returns-clause-fewer
returns-clause-fewer g t c =
    let m = font (g.B.Bodies.subrs c.args.bodies.now) (g.B.Bodies.glyphs c.args.bodies.now) in
    let there = body_there c.glyph.ensures c.in_ok-body.ensures.ok_part in
    let d = c.in_ok-run.run'.drawing in
    let drew = run_drew (own m c.args.name.now) c.in_ok-run.run' (c.in_ok-run.ensures.outcome c.args.name.now there) in
    let parts = c.in-Some.parts.now in
    let part = runs_within (own m) (c.args.depth - 1) in
    let whole = runs_composed (own m) c.args.depth c.args.name.now d parts c.if-depth-eq0.false drew c.in-Some.ensures.parts in
    let base = subst (λ n. c.nested_outline.new.meter ≡ counted c.run_of_body.new.meter (part n)) c.as_slice.ensures c.in_ok-base.ensures.runs in
    let accent = subst (λ n. c.nested_outline-2.new.meter ≡ counted c.nested_outline.new.meter (part n)) c.as_slice-2.ensures c.in_ok-accent.ensures.runs in
    let all =
    parts_counted c.args.meter.now c.run_of_body.new.meter c.nested_outline.new.meter c.nested_outline-2.new.meter (part parts.base) (part parts.accent)
    (runs_within (own m) c.args.depth c.args.name.now) c.run_of_body.ensures.counted base accent whole in
    on_err c.join.result (all_counted (runs_within (own m) c.args.depth c.args.name.now) c.args.meter.now c.nested_outline-2.new.meter all)
