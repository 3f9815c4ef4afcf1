use Rattle.std.proofs.Common.{Ok, ap, sym, ◌∙◌}
use Rattle.t1_source.proofs.WellFormedSourceLaws.{source_well_formed}
use Rattle.t1_source.proofs.source.read_source.Goals as goal

pub invariant_of-result-2 : goal.invariant_of-result-2
invariant_of-result-2 c =
    let clear = c.in_ok-clear.field-0.clear.items in
    let tail = c.in_ok-clear.field-0.tail.items in
    rw (c.in_ok-new.ensures.ok, c.in_ok-new-2.ensures.ok)
    (source_well_formed c.args.bytes.now _ (c.in_ok-clear.ensures ∙ ap (λ is. Ok (record { clear = clear; items = is; tail = tail })) (sym c.items.view_is)))
