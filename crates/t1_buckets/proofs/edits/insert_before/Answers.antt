use Rattle.std.proofs.Common.{ℕ, ap, ◌∙◌}
use Rattle.std.specs.List.{insert}
use Rattle.std.proofs.lemmas.Result.{on_ok_weaker}
use Rattle.t1_buckets.proofs.SharedLaws.{inserted_there}
use Rattle.t1_buckets.proofs.edits.insert_before.Goals as goal

pub returns-clause-ok : goal.returns-clause-ok
returns-clause-ok g c =
    let bs = c.place_with_room.new.buckets.items in
    let p : ℕ × ℕ = (c.in_ok-index.index, c.in_ok-index.offset) in
    on_ok_weaker c.insert_into.result (λ e. inserted_there c.args.at bs p c.in_ok-index.ensures.place c.insert_into.new.buckets.items c.args.element e ∙ ap (λ xs. insert xs c.args.at c.args.element) c.place_with_room.ensures.same) c.insert_into.ensures.ok
