use Rattle.std.proofs.Common.{◌≡◌, ◌∙◌, ap, length, map, subst, sym}
use Rattle.std.specs.List.{AllByRecursion}
use Rattle.std.proofs.lemmas.Result.{err_from_is_err_and}
use Rattle.t1_font.specs.KeptBodies.{plain_bodies}
use Rattle.t1_font.specs.Runs.{Counts}
use Rattle.t1_font.specs.RunCounts.{counted}
use Rattle.t1_cache.specs.Recorded.{kept_of}
use Rattle.t1_font.proofs.Measuring.{names-there}
use Rattle.t1_rerun.specs.Opened.{measured_names, opening_runs, AreMeasured, IsRecorded}
use Rattle.t1_rerun.proofs.FirstRecords.{all-after, are-measured, are-right, counts-done, counts-some, first-fault, names-measured, no-fault, runs-are}
use Rattle.t1_rerun.proofs.Reaching.{counts-all, length-map}
use Rattle.t1_rerun.proofs.opening.records_by.Goals as goal

pub runs_of-requires : goal.runs_of-requires
runs_of-requires c =
    names-there (plain_bodies c.args.bodies) c.args.source.now.items c.args.names.now tt c.requires.no_fault c.requires.bodies c.requires.names

pub returns-in_err-runs-clause-counted : goal.returns-in_err-runs-clause-counted
returns-in_err-runs-clause-counted c =
    let equal = sym (length-map (λ name. name.now) c.args.names.now) ∙ ap length c.requires.names ∙ sym (runs-are c.args.source.now c.requires.file) in
    let p = err_from_is_err_and c.from_residual.result c.from_residual.ensures.1 in
    subst (λ n. Counts n c.args.meter.now c.runs_of.new.meter c.from_residual.result) equal
    (counts-some (length c.args.names.now) c.args.meter.now c.runs_of.new.meter c.from_residual.result p.0 p.1 p.2 c.in_err-runs.ensures.want)

pub returns-in_err-metrics-clause-checked : goal.returns-in_err-metrics-clause-checked
returns-in_err-metrics-clause-checked c =
    let p = err_from_is_err_and c.from_residual-in_err-metrics.result c.from_residual-in_err-metrics.ensures.1 in
    rw (p.1, p.2)
    (first-fault c.args.source.now c.requires.file (plain_bodies c.args.bodies) c.requires.bodies c.requires.no_fault c.args.names.now c.requires.names c.in_ok-runs.runs
    c.in_ok-runs.ensures.kept c.in_err-metrics.field-0.0 c.in_err-metrics.ensures)

pub returns-in_err-metrics-clause-counted : goal.returns-in_err-metrics-clause-counted
returns-in_err-metrics-clause-counted c =
    let equal = sym (length-map (λ name. name.now) c.args.names.now) ∙ ap length c.requires.names ∙ sym (runs-are c.args.source.now c.requires.file) in
    subst (λ n. Counts n c.args.meter.now c.runs_of.new.meter c.from_residual-in_err-metrics.result) equal
    (counts-done (length c.args.names.now) c.args.meter.now c.runs_of.new.meter c.from_residual-in_err-metrics.result c.in_ok-runs.ensures.counted)

pub returns-in_err-records_of-clause-counted : goal.returns-in_err-records_of-clause-counted
returns-in_err-records_of-clause-counted c =
    let equal = sym (length-map (λ name. name.now) c.args.names.now) ∙ ap length c.requires.names ∙ sym (runs-are c.args.source.now c.requires.file) in
    let p = err_from_is_err_and c.from_residual-in_err-records_of.result c.from_residual-in_err-records_of.ensures.1 in
    counts-all (length c.args.names.now) (opening_runs c.args.source.now) c.args.meter.now c.runs_of.new.meter c.from_residual-in_err-records_of.result
    p.0 p.1 p.2 c.in_ok-runs.ensures.counted equal

pub records_of-requires-clause-names : goal.records_of-requires-clause-names
records_of-requires-clause-names c =
    names-measured c.args.source.now c.requires.file (plain_bodies c.args.bodies) c.requires.bodies c.requires.no_fault c.args.names.now c.requires.names c.in_ok-runs.runs
    c.in_ok-runs.ensures.kept c.in_ok-metrics.metrics.items c.in_ok-metrics.ensures
    ∙ ap measured_names (sym c.deref.ensures.value)

pub records_of-requires-clause-measured : goal.records_of-requires-clause-measured
records_of-requires-clause-measured c =
    let bs = plain_bodies c.args.bodies in
    subst (AreMeasured bs c.in_ok-runs.runs) (sym c.deref.ensures.value)
    (are-measured c.args.source.now c.requires.file bs c.requires.bodies c.requires.no_fault c.args.names.now c.requires.names c.in_ok-runs.runs
    c.in_ok-runs.ensures.kept c.in_ok-metrics.metrics.items c.in_ok-metrics.ensures c.text_of_source_read.ensures)

pub returns-clause-checked : goal.returns-clause-checked
returns-clause-checked c =
    no-fault c.args.source.now c.requires.file (plain_bodies c.args.bodies) c.requires.bodies c.requires.no_fault c.args.names.now c.requires.names c.in_ok-runs.runs
    c.in_ok-runs.ensures.kept c.in_ok-metrics.metrics.items c.in_ok-metrics.ensures

pub returns-clause-right : goal.returns-clause-right
returns-clause-right c =
    let runs = c.in_ok-runs.runs in
    let records = c.in_ok-records_of.field-0 in
    let made = c.in_ok-records_of.ensures in
    are-right c.args.source.now c.requires.file (plain_bodies c.args.bodies) c.requires.bodies c.requires.no_fault c.args.names.now c.requires.names runs
    c.in_ok-runs.ensures.kept c.in_ok-metrics.metrics.items c.in_ok-metrics.ensures c.in_ok-runs.ensures.traced records made.compiled made.users
    (made.order ∙ ap measured_names c.deref.ensures.value)
    (subst (λ l. AllByRecursion (IsRecorded runs l) (map kept_of records.glyphs.entries)) c.deref.ensures.value made.each)

pub returns-clause-later : goal.returns-clause-later
returns-clause-later c =
    let records = c.in_ok-records_of.field-0 in
    all-after c.args.meter.now c.in_ok-runs.runs c.deref.result.now c.in_ok-runs.ensures.after (map kept_of records.glyphs.entries) c.in_ok-records_of.ensures.each

pub returns-clause-counted : goal.returns-clause-counted
returns-clause-counted c =
    let equal = sym (length-map (λ name. name.now) c.args.names.now) ∙ ap length c.requires.names ∙ sym (runs-are c.args.source.now c.requires.file) in
    subst (λ n. c.runs_of.new.meter ≡ counted c.args.meter.now n) equal c.in_ok-runs.ensures.counted
