use Rattle.std.proofs.Common.{◌∙◌, ap, map}
use Rattle.std.proofs.lemmas.Result.{err_from_is_err_and}
use Rattle.t1_font.specs.Glyphs.{glyph_names}
use Rattle.t1_rerun.proofs.Judged.{file-refused}
use Rattle.t1_rerun.proofs.opening.opened_records.Goals as goal

pub returns-in_err-bodies-clause-checked : goal.returns-in_err-bodies-clause-checked
returns-in_err-bodies-clause-checked c =
    let p = err_from_is_err_and c.from_residual-in_err-bodies.result c.from_residual-in_err-bodies.ensures.1 in
    rw (p.1, p.2) (file-refused c.args.source.now c.in_err-bodies.field-0.0 c.in_err-bodies.ensures.file)

pub records_by-requires-clause-file : goal.records_by-requires-clause-file
records_by-requires-clause-file c = c.in_ok-bodies.ensures.file

pub records_by-requires-clause-no_fault : goal.records_by-requires-clause-no_fault
records_by-requires-clause-no_fault c = c.in_ok-bodies.ensures.no_fault

pub records_by-requires-clause-bodies : goal.records_by-requires-clause-bodies
records_by-requires-clause-bodies c = c.in_ok-bodies.ensures.bodies

pub records_by-requires-clause-names : goal.records_by-requires-clause-names
records_by-requires-clause-names c = ap (map (λ name. name.now)) c.deref.ensures.value ∙ c.in_ok-names.ensures ∙ ap glyph_names c.items.ensures

pub returns-clause-checked : goal.returns-clause-checked
returns-clause-checked c = c.records_by.ensures.checked

pub returns-clause-right : goal.returns-clause-right
returns-clause-right c = c.records_by.ensures.right

pub returns-clause-later : goal.returns-clause-later
returns-clause-later c = c.records_by.ensures.later

pub returns-clause-counted : goal.returns-clause-counted
returns-clause-counted c = c.records_by.ensures.counted
