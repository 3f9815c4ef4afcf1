use Rattle.std.proofs.Common.{subst}
use Rattle.std.proofs.lemmas.Result.{err_from_is_err_and}
use Rattle.t1_frac.specs.Outcome.{Refuses}
use Rattle.t1_source.specs.EditedItems.{edited_items}
use Rattle.t1_source.specs.EditedSource.{made_of}
use Rattle.t1_charstrings.proofs.MadeItems.{check_made, kept_made}
use Rattle.t1_charstrings.proofs.Readying.{all_ready, bodies_refused}
use Rattle.t1_charstrings.proofs.anew.prepare_anew.Goals as goal

pub returns-in_err-charstrings-clause-judged : goal.returns-in_err-charstrings-clause-judged
returns-in_err-charstrings-clause-judged c =
    let m = made_of c.args.made.now in
    let is = edited_items c.items-items.result in
    let r = c.in_err-charstrings.field-0.0 in
    let p = err_from_is_err_and c.from_residual.result c.from_residual.ensures.1 in
    rw (p.1, p.2) (bodies_refused m r (subst (Refuses r) (check_made is m c.items-items.ensures.items) c.in_err-charstrings.ensures.checked))

pub len_anew-requires-clause-kept : goal.len_anew-requires-clause-kept
len_anew-requires-clause-kept c =
    let found = c.in_ok-charstrings in
    kept_made (edited_items c.items-items.result) (made_of c.args.made.now) c.items-items.ensures.items found.charstrings found.ensures.checked found.ensures.kept

pub returns-clause-ready : goal.returns-clause-ready
returns-clause-ready c = λ old.
    let m = made_of c.args.made.now in
    let found = c.in_ok-charstrings in
    let kept = kept_made (edited_items c.items-items.result) m c.items-items.ensures.items found.charstrings found.ensures.checked found.ensures.kept in
    all_ready m old found.charstrings c.in_ok-len.len kept c.in_ok-len.ensures.len
