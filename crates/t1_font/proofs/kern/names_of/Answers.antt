use Rattle.std.proofs.Common.{◌∙◌, ◌||◌, ap, arith, sym}
use Rattle.std.proofs.lemmas.List.{drop_all}
use Rattle.std.proofs.Math.Bool.{or-false}
use Rattle.t1_font.specs.Metrics.{has_metrics}
use Rattle.t1_font.specs.Names.{is_name_kept}
use Rattle.t1_font.proofs.kern.names_of.Goals as goal

pub returns : goal.returns
returns c = λ g.
    let names = c.loop-glyph.names.keys in
    let none = drop_all c.loop-glyph.glyph-index c.args.metrics.now (omega arith) in
    sym (or-false (is_name_kept names g)) ∙ ap (λ metrics. is_name_kept names g || has_metrics metrics g) (sym none) ∙ c.loop-glyph.invariant g
