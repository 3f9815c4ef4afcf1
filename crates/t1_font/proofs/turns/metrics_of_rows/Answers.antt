use Rattle.std.proofs.Common.{◌≡◌, [], rules, sym, subst}
use Rattle.std.proofs.lemmas.List.{nil_from_length}
use Rattle.std.proofs.lemmas.Result.{err_from_is_err_and}
use Rattle.t1_font.specs.InTurn.{AreRows}
use Rattle.t1_font.proofs.InTurnLaws.{RowsLeft, all-left, measured-first, one-measured, one-faulty, none-left}
use Rattle.t1_font.proofs.turns.metrics_of_rows.Goals as goal

pub loop-row-init : goal.loop-row-init
loop-row-init c = λ run. λ names. λ are. λ stay.
    let rows = c.rows.inside in
    let same : c.into_iter-row-iterator.result.rest.items ≡ rows.rest.items = search rules in
    rw same (measured-first run names [] rows.measured.items rows.rest.items (all-left run names _ (subst (AreRows run names) (sym c.rows.view_is) are)))

pub loop-row-preserved : goal.loop-row-preserved
loop-row-preserved c = λ run. λ names. λ are. λ stay.
    let before = subst (RowsLeft run names c.loop-row.metrics.items) c.in-Some.ensures.steps.0 (c.loop-row.invariant run names are stay) in
    subst (λ metrics. RowsLeft run names metrics c.next.new.self.rest.items) (sym c.in_ok-push.ensures.items)
    (one-measured run names c.loop-row.metrics.items c.in-Some.row c.next.new.self.rest.items c.in_ok-metrics_of_row.field-0 before
    (λ name. λ row. c.in_ok-metrics_of_row.ensures run names name row stay))

pub returns-in_err-metrics_of_row : goal.returns-in_err-metrics_of_row
returns-in_err-metrics_of_row c = λ run. λ names. λ are. λ stay.
    let before = subst (RowsLeft run names c.loop-row.metrics.items) c.in-Some.ensures.steps.0 (c.loop-row.invariant run names are stay) in
    let p = err_from_is_err_and c.from_residual.result c.from_residual.ensures.1 in
    rw (p.1, p.2)
    (one-faulty run names c.loop-row.metrics.items c.in-Some.row c.next.new.self.rest.items c.in_err-metrics_of_row.field-0.0 before
    (λ name. λ row. c.in_err-metrics_of_row.ensures run names name row stay))

pub returns : goal.returns
returns c = λ run. λ names. λ are. λ stay.
    let none = nil_from_length c.loop-row.row-iterator.rest.items (search rules) in
    none-left run names c.loop-row.metrics.items (subst (RowsLeft run names c.loop-row.metrics.items) none (c.loop-row.invariant run names are stay))
