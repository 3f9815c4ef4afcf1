use Rattle.t1_source.specs.Changes.{put_by, taken_by}
use Rattle.t1_charstrings.specs.Beside.{put_beside, taken_beside}
use Rattle.t1_charstrings.proofs.BesideLaws.{counted_beside, kept_beside}
use Rattle.t1_charstrings.proofs.beside.len_beside.Goals as goal

pub returns : goal.returns
returns c =
    let change = c.args.change.now in
    let source = c.args.source.now in
    let counted =
    counted_beside c.args.len c.checked_add.result c.in_ok-len.field-0 c.in_ok-taken.taken c.in_ok-put.put c.in_ok-checked_sub.field-0
    (taken_beside source.items (taken_by change)) (put_beside (put_by change)) c.in_ok-len.was c.in_ok-taken.ensures.1 c.in_ok-put.ensures.1
    c.in_ok-checked_sub.ensures.0 c.in_ok-checked_sub.ensures.1 c.checked_add.ensures
    in
    record { counted = counted; kept = kept_beside change source c.requires c.args.len c.checked_add.result counted }
