use Rattle.std.proofs.Common.{◌∙◌, None, Some, cond, refl, sym, ap, arith}
use Rattle.std.specs.List.{list_any}
use Rattle.std.specs.Option.{option_or}
use Rattle.std.proofs.lemmas.List.{drop_all}
use Rattle.t1_font.proofs.Compiling.{or-none}
use Rattle.t1_faults.specs.Composites.{is_chain_of}
use Rattle.t1_faults.specs.GlyphRuns.{number_kept}
use Rattle.t1_faults.proofs.CompositeLaws.{chain_next}
use Rattle.t1_faults.proofs.composites.keep_for_chains.Goals as goal

pub loop-chain-init : goal.loop-chain-init
loop-chain-init c = λ g. refl

pub loop-chain-preserved : goal.loop-chain-preserved
loop-chain-preserved c = λ g.
    chain_next c.args.chains.now c.loop-chain.chain-index c.chain-item.result g c.as_slice.result.now c.args.number
    (number_kept c.loop-chain.numbers.entries g) (number_kept c.keep_number.new.numbers.entries g) _
    (omega arith) c.chain-item.is c.as_slice.ensures (c.in_ok-keep_number.ensures g) (c.loop-chain.invariant g)

pub returns : goal.returns
returns c = λ g.
    let kept = number_kept c.loop-chain.numbers.entries g in
    or-none kept ∙ ap (λ cs. option_or kept (cond (list_any (is_chain_of g) cs) (Some c.args.number) None)) (sym (drop_all c.loop-chain.chain-index c.args.chains.now (omega arith)))
    ∙ c.loop-chain.invariant g
