use Rattle.std.proofs.Common.{◌∙◌, ap, map, sym, subst}
use Rattle.std.specs.Prelude.{Ok}
use Rattle.std.proofs.lemmas.Result.{err_from_is_err_and}
use Rattle.t1_frac.specs.Outcome.{reported_at, ◌>>=◌, Refuses}
use Rattle.t1_frac.specs.declared.fault.Place.TheVariants.{Nowhere}
use Rattle.t1_font.proofs.Drawing.{refuses-then}
use Rattle.t1_cache.specs.Recorded.{kept_of}
use Rattle.t1_rerun.specs.Measured.{kept_metrics}
use Rattle.t1_rerun.proofs.Reporting.{font_of, metrics-right}
use Rattle.t1_rerun.proofs.measured.measured_records.Goals as goal

pub returns-in_err-metrics : goal.returns-in_err-metrics
returns-in_err-metrics c = λ s right.
    let entries = c.args.records.now.glyphs.entries in
    let p = err_from_is_err_and c.from_residual.result c.from_residual.ensures.1 in
    rw (p.1, p.2)
    (subst (Refuses c.in_err-metrics.field-0.0) (metrics-right s entries right.kept)
    (refuses-then c.in_err-metrics.field-0.0 (reported_at Nowhere (kept_metrics (map kept_of entries))) font_of c.in_err-metrics.ensures))

pub returns : goal.returns
returns c = λ s right.
    let entries = c.args.records.now.glyphs.entries in
    sym (metrics-right s entries right.kept) ∙ ap (λ r. r >>= font_of) c.in_ok-metrics.ensures ∙ ap Ok (sym c.of.ensures)
