use Rattle.std.proofs.lemmas.Result.{err_from_is_err_and}
use Rattle.t1_charstrings.proofs.MadeItems.{kept-parts, refused-after, refused-before, refused-between, sound-parts}
use Rattle.t1_charstrings.proofs.encrypted_items.add_parts.Goals as goal

pub returns-in_err-add_items-clause-checked : goal.returns-in_err-add_items-clause-checked
returns-in_err-add_items-clause-checked c =
    let s = c.args.items.now in
    let p = err_from_is_err_and c.from_residual.result c.from_residual.ensures.1 in
    rw (p.1, p.2) (refused-before c.in_err-add_items.field-0.0 s.before s.put s.after c.in_err-add_items.ensures.checked)

pub returns-in_err-add_items-2-clause-checked : goal.returns-in_err-add_items-2-clause-checked
returns-in_err-add_items-2-clause-checked c =
    let s = c.args.items.now in
    let p = err_from_is_err_and c.from_residual-in_err-add_items-2.result c.from_residual-in_err-add_items-2.ensures.1 in
    rw (p.1, p.2) (refused-between c.in_err-add_items-2.field-0.0 s.before s.put s.after c.in_ok-add_items.ensures.checked c.in_err-add_items-2.ensures.checked)

pub returns-in_err-add_items-3-clause-checked : goal.returns-in_err-add_items-3-clause-checked
returns-in_err-add_items-3-clause-checked c =
    let s = c.args.items.now in
    let p = err_from_is_err_and c.from_residual-in_err-add_items-3.result c.from_residual-in_err-add_items-3.ensures.1 in
    rw (p.1, p.2)
    (refused-after c.in_err-add_items-3.field-0.0 s.before s.put s.after c.in_ok-add_items.ensures.checked c.in_ok-add_items-2.ensures.checked c.in_err-add_items-3.ensures.checked)

pub returns-clause-checked : goal.returns-clause-checked
returns-clause-checked c =
    let s = c.args.items.now in
    sound-parts s.before s.put s.after c.in_ok-add_items.ensures.checked c.in_ok-add_items-2.ensures.checked c.in_ok-add_items-3.ensures.checked

pub returns-clause-kept : goal.returns-clause-kept
returns-clause-kept c =
    let s = c.args.items.now in
    kept-parts c.args.lead s.before s.put s.after c.args.charstrings.now c.add_items.new.charstrings c.add_items-2.new.charstrings c.add_items-3.new.charstrings
    c.requires c.in_ok-add_items.ensures.kept c.in_ok-add_items-2.ensures.kept c.in_ok-add_items-3.ensures.kept
