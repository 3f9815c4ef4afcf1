use Rattle.t1_charstrings.proofs.Filed.{kept_len}
use Rattle.t1_charstrings.proofs.lengths.private_len.Goals as goal

pub returns : goal.returns
returns c =
    kept_len c.args.source.now c.args.charstrings.now c.operator.result.now c.items.result.now c.items_len.result c.requires.well c.requires.kept
    c.operator.ensures c.items.ensures c.items_len.ensures
