use Rattle.std.proofs.Common.{◌∙◌, ap, refl, sym, map}
use Rattle.std.specs.Prelude.{Ok}
use Rattle.std.proofs.lemmas.Result.{err_from_is_err_and}
use Rattle.t1_afm.specs.Box.{united}
use Rattle.t1_run.specs.Run.{own}
use Rattle.t1_font.specs.Glyphs.{glyph_names}
use Rattle.t1_font.specs.ToRun.{font_to_run}
use Rattle.t1_font.proofs.Measuring.{all-reported, all-refused}
use Rattle.t1_font.proofs.MeasuringTurns.{runs-own, runs-stay}
use Rattle.t1_font.proofs.turns.measured_turns.Goals as goal

pub returns-in_err-metrics : goal.returns-in_err-metrics
returns-in_err-metrics c = λ items. λ checked. λ turns.
    let run = own (font_to_run items) in
    let p = err_from_is_err_and c.from_residual.result c.from_residual.ensures.1 in
    rw (p.1, p.2)
    (all-refused items run c.in_err-metrics.field-0.0 (runs-own items checked) (c.in_err-metrics.ensures run (glyph_names items) turns.rows (runs-stay items c.args.turns.runs turns.runs)))

pub returns : goal.returns
returns c = λ items. λ checked. λ turns.
    let run = own (font_to_run items) in
    all-reported items run c.in_ok-metrics.metrics.items (united (map (λ s. s.bbox) c.in_ok-metrics.metrics.items)) (runs-own items checked)
    (c.in_ok-metrics.ensures run (glyph_names items) turns.rows (runs-stay items c.args.turns.runs turns.runs)) refl
    ∙ ap Ok (sym c.of.ensures)
