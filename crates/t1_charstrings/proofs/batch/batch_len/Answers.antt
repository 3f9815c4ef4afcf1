use Rattle.t1_charstrings.proofs.Batches.{batch_len_is}
use Rattle.t1_charstrings.proofs.batch.batch_len.Goals as goal

pub returns : goal.returns
returns c = λ keys s batch fresh.
    batch_len_is keys s c.args.source.now c.args.charstrings.now batch c.args.fresh.now c.operator.result.now c.items.result.now c.batch_items_len.result fresh
    c.operator.ensures c.items.ensures c.batch_items_len.ensures
