use Rattle.std.proofs.Common.{subst, arith}
use Rattle.t1_parts.specs.EntryKeys.{IsEntryAt}
use Rattle.t1_parts.proofs.BlockSearchLaws.{entry_in_block}
use Rattle.t1_parts.proofs.blocks.entry_in.Goals as goal

pub overflow_add-result : goal.overflow_add-result
overflow_add-result c =
    let there = subst (λ xs. IsEntryAt c.args.key.now xs c.in_ok-at.at) c.deref.ensures c.in_ok-at.ensures in
    let all = entry_in_block c.args.index c.args.blocks.now c.index-blocks-index.result c.requires.within c.index-blocks-index.is c.args.key.now c.len_before.result c.in_ok-at.at c.len_before.ensures there in
    omega (arith, all.0, c.requires.few)

pub returns : goal.returns
returns c =
    let there = subst (λ xs. IsEntryAt c.args.key.now xs c.in_ok-at.at) c.deref.ensures c.in_ok-at.ensures in
    entry_in_block c.args.index c.args.blocks.now c.index-blocks-index.result c.requires.within c.index-blocks-index.is c.args.key.now c.len_before.result c.in_ok-at.at c.len_before.ensures there
