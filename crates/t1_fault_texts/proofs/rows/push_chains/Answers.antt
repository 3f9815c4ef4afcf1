use Rattle.std.proofs.Common.{◌<◌, length, arith}
use Rattle.t1_fault_texts.specs.Rows.{chain_field}
use Rattle.t1_fault_texts.proofs.Texts.{one_more}
use Rattle.t1_fault_texts.proofs.rows.push_chains.Goals as goal

pub loop-chain-preserved : goal.loop-chain-preserved
loop-chain-preserved c =
    let inside : c.loop-chain.chain-index < length c.args.chains.now = omega arith in
    one_more chain_field c.args.chains.now c.loop-chain.chain-index _ c.chain-item.result c.args.text.now.items c.loop-chain.text.items c.push_chain.new.text.items inside c.chain-item.is
    c.loop-chain.invariant c.in_ok-push_chain.ensures
