use Rattle.std.proofs.Common.{◌∙◌, None, Some, cond, ap}
use Rattle.std.specs.List.{list_any}
use Rattle.std.specs.Option.{option_or}
use Rattle.t1_faults.specs.Composites.{is_chain_of, is_place_of_glyph}
use Rattle.t1_faults.specs.GlyphRuns.{number_kept}
use Rattle.t1_faults.proofs.CompositeLaws.{one_of_two}
use Rattle.t1_faults.proofs.composites.keep_for_named.Goals as goal

pub returns : goal.returns
returns c = λ g.
    let fault = c.args.fault.now in
    let number = c.args.number in
    let old = number_kept c.args.numbers.now.entries g in
    c.in_ok-keep_for_chains.ensures g
    ∙ ap (λ cs. option_or (number_kept c.keep_for_entry.new.numbers.entries g) (cond (list_any (is_chain_of g) cs) (Some number) None)) c.as_slice.ensures
    ∙ ap (λ o. option_or o (cond (list_any (is_chain_of g) fault.chains) (Some number) None)) (c.in_ok-keep_for_entry.ensures g)
    ∙ one_of_two old (is_place_of_glyph g fault.place) (list_any (is_chain_of g) fault.chains) number
