use Rattle.std.proofs.Common.{◌∙◌, ap, sym, take, arith}
use Rattle.std.specs.Prelude.{◌||◌}
use Rattle.std.specs.List.{list_any}
use Rattle.std.proofs.lemmas.List.{take_all}
use Rattle.std.proofs.lemmas.List.Folds.{list_any_more}
use Rattle.t1_cache.specs.Users.{is_name_among}
use Rattle.t1_cache.specs.Tables.{is_seed}
use Rattle.t1_cache.proofs.ThroughTables.{stale-closed}
use Rattle.t1_cache.proofs.stale.found.Goals as goal

pub loop-named-preserved : goal.loop-named-preserved
loop-named-preserved c = λ g.
    let edits = c.args.edits.now in
    let i = c.loop-named.named-index in
    let seed = is_seed c.args.records.now g in
    c.in_ok-add_seeds.ensures g
    ∙ ap (λ b. b || seed c.named-item.result) (c.loop-named.invariant g)
    ∙ ap (λ x. list_any seed (take i edits) || seed x) c.named-item.is
    ∙ sym (list_any_more seed edits i c.named-item.result (omega arith))

pub returns-clause-stale : goal.returns-clause-stale
returns-clause-stale c = λ m tables.
    let edits = c.args.edits.now in
    let records = c.args.records.now in
    stale-closed m records tables edits (is_name_among (λ name. name.now) c.loop-named.found.keys)
    (λ g. c.loop-named.invariant g ∙ ap (list_any (is_seed records g)) (take_all c.loop-named.named-index edits (omega arith)))
    (is_name_among (λ name. name.now) c.close.new.found.keys) c.in_ok-close.ensures.closes
