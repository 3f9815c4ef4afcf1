use Rattle.std.proofs.Common.{sym, ap, ◌∙◌}
use Rattle.std.proofs.lemmas.Result.{err_from_is_err_and}
use Rattle.t1_frac.proofs.OutcomeLaws.{on_err}
use Rattle.t1_run.specs.Run.{font}
use Rattle.t1_outline.specs.Counting.{outline_runs}
use Rattle.t1_outline.specs.Text.{outline_text}
use Rattle.t1_outline.proofs.Counts.{all_counted}
use Rattle.t1_outline.proofs.OfNames.{there_shown, there_refused, absent_shown, absent_counted}
use Rattle.t1_outline.proofs.showing.glyph_outline.Goals as goal

pub returns-then-not-has_glyph-clause-shown : goal.returns-then-not-has_glyph-clause-shown
returns-then-not-has_glyph-clause-shown g c =
    let m = font (g.B.Bodies.subrs c.args.bodies.now) (g.B.Bodies.glyphs c.args.bodies.now) in
    absent_shown m c.args.name.now (sym c.has_glyph.ensures ∙ c.if-not-has_glyph.true)

pub returns-then-not-has_glyph-clause-runs : goal.returns-then-not-has_glyph-clause-runs
returns-then-not-has_glyph-clause-runs g c =
    let m = font (g.B.Bodies.subrs c.args.bodies.now) (g.B.Bodies.glyphs c.args.bodies.now) in
    absent_counted m c.args.name.now c.args.meter.now (sym c.has_glyph.ensures ∙ c.if-not-has_glyph.true)

pub returns-in_err-outline-clause-shown : goal.returns-in_err-outline-clause-shown
returns-in_err-outline-clause-shown g c =
    let m = font (g.B.Bodies.subrs c.args.bodies.now) (g.B.Bodies.glyphs c.args.bodies.now) in
    let p = err_from_is_err_and c.from_residual.result c.from_residual.ensures.1 in
    rw (p.1, p.2) (there_refused m c.args.name.now c.in_err-outline.field-0.0 (sym c.has_glyph.ensures ∙ c.if-not-has_glyph.false) c.in_err-outline.ensures.drawn)

pub returns-in_err-outline-clause-fewer : goal.returns-in_err-outline-clause-fewer
returns-in_err-outline-clause-fewer g c = on_err c.from_residual.result c.in_err-outline.ensures.fewer

pub returns-in_err-text-clause-fewer : goal.returns-in_err-text-clause-fewer
returns-in_err-text-clause-fewer g c =
    let m = font (g.B.Bodies.subrs c.args.bodies.now) (g.B.Bodies.glyphs c.args.bodies.now) in
    on_err c.from_residual-in_err-text.result
    (all_counted (outline_runs m c.args.name.now) c.args.meter.now c.placed_outline.new.meter c.in_ok-outline.ensures.runs)

pub returns-clause-shown : goal.returns-clause-shown
returns-clause-shown g c =
    let m = font (g.B.Bodies.subrs c.args.bodies.now) (g.B.Bodies.glyphs c.args.bodies.now) in
    there_shown m c.args.name.now c.in_ok-outline.outline.items c.in_ok-text.text.items (sym c.has_glyph.ensures ∙ c.if-not-has_glyph.false) c.in_ok-outline.ensures.drawn
    (c.in_ok-text.ensures ∙ ap outline_text c.as_slice.ensures.value)
