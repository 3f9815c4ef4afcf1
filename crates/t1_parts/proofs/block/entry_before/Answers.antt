use Rattle.std.proofs.Common.{sym, ◌∙◌, arith}
use Rattle.t1_parts.proofs.StartLaws.{entry_on}
use Rattle.t1_parts.proofs.block.entry_before.Goals as goal

pub returns-in-Some : goal.returns-in-Some
returns-in-Some c =
    entry_on c.args.key.now _ c.args.stretches.now c.index-stretches-index.result c.in-Some._entry.now (omega arith)
    (sym c.index-stretches-index.is ∙ c.in-Some.ensures.0) c.in-Some.ensures.1
