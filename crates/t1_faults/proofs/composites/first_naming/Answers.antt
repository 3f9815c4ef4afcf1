use Rattle.std.proofs.Common.{◌∙◌, sym, ap, arith}
use Rattle.std.specs.Option.{option_or}
use Rattle.std.proofs.lemmas.List.{drop_all}
use Rattle.t1_font.proofs.Compiling.{or-none}
use Rattle.t1_faults.specs.GlyphRuns.{first_naming, number_kept}
use Rattle.t1_faults.proofs.CompositeLaws.{naming_next}
use Rattle.t1_faults.proofs.composites.first_naming.Goals as goal

pub loop-number-init : goal.loop-number-init
loop-number-init c = λ g. ap (λ es. option_or (number_kept es g) (first_naming 0 c.args.found.now g)) c.new-numbers.ensures.empty

pub loop-number-preserved : goal.loop-number-preserved
loop-number-preserved c = λ g.
    naming_next c.args.found.now c.loop-number.number c.index-found-number.result g (number_kept c.loop-number.numbers.entries g) (number_kept c.keep_for_named.new.numbers.entries g) _
    (omega arith) c.index-found-number.is (c.in_ok-keep_for_named.ensures g) (c.loop-number.invariant g)

pub returns : goal.returns
returns c = λ g.
    let kept = number_kept c.loop-number.numbers.entries g in
    or-none kept ∙ ap (λ fs. option_or kept (first_naming c.loop-number.number fs g)) (sym (drop_all c.loop-number.number c.args.found.now (omega arith)))
    ∙ c.loop-number.invariant g
