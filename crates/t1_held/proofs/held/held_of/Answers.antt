use Rattle.std.proofs.Common.{refl}
use Rattle.std.proofs.lemmas.Result.{err_from_is_err_and}
use Rattle.t1_rerun.specs.Opened.{opening_runs}
use Rattle.t1_rerun.proofs.Judged.{file-refused}
use Rattle.t1_charstrings.proofs.Readying.{bodies_refused}
use Rattle.t1_held.proofs.HeldLaws.{checked_well, counts_all}
use Rattle.t1_held.proofs.held.held_of.Goals as goal

pub returns-in_err-charstrings-clause-checked : goal.returns-in_err-charstrings-clause-checked
returns-in_err-charstrings-clause-checked c =
    let s = c.args.source.now in
    let p = err_from_is_err_and c.from_residual-in_err-charstrings.result c.from_residual-in_err-charstrings.ensures.1 in
    rw (p.1, p.2) (file-refused s c.in_err-charstrings.field-0.0 (bodies_refused s c.in_err-charstrings.field-0.0 c.in_err-charstrings.ensures.checked))

pub returns-in_err-charstrings-clause-counted : goal.returns-in_err-charstrings-clause-counted
returns-in_err-charstrings-clause-counted c =
    let p = err_from_is_err_and c.from_residual-in_err-charstrings.result c.from_residual-in_err-charstrings.ensures.1 in
    counts_all (opening_runs c.args.source.now) c.args.meter.now c.opened_records.new.meter c.from_residual-in_err-charstrings.result c.in_err-charstrings.field-0.0 (rw (p.1, p.2) refl)
    c.in_ok-records.ensures.counted

pub private_len-len-requires-clause-well : goal.private_len-len-requires-clause-well
private_len-len-requires-clause-well c = checked_well c.args.source.now c.in_ok-records.ensures.checked c.text_of_source_read.ensures

pub returns-clause-held : goal.returns-clause-held
returns-clause-held c =
    record { right = c.in_ok-records.ensures.right; encrypted = c.in_ok-charstrings.ensures.kept; len = c.private_len-len.ensures }
