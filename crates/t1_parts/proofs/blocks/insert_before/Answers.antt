use Rattle.std.proofs.Common.{ap, ◌∙◌}
use Rattle.std.specs.List.{insert}
use Rattle.std.proofs.lemmas.Result.{on_ok_weaker}
use Rattle.t1_buckets.proofs.SharedLaws.{inserted_there}
use Rattle.t1_parts.proofs.blocks.insert_before.Goals as goal

pub returns-clause-ok : goal.returns-clause-ok
returns-clause-ok c =
    let bs = c.place_with_room.new.blocks.items in
    on_ok_weaker c.insert_into.result (λ e. inserted_there c.args.at bs c.in-Ok.place c.in-Ok.ensures.place c.insert_into.new.blocks.items c.args.item e ∙ ap (λ xs. insert xs c.args.at c.args.item) c.place_with_room.ensures.same) c.insert_into.ensures.ok
