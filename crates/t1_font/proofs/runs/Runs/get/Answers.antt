use Rattle.std.proofs.Common.{◌∙◌, sym, ap, subst}
use Rattle.std.specs.Str.{bytes_eq}
use Rattle.std.specs.Option.{option_map}
use Rattle.t1_font.specs.Runs.{drawing_kept, drawing_in, IsTracedAs}
use Rattle.t1_font.proofs.Keeping.{copied-map, lookup-names}
use Rattle.t1_font.proofs.runs.Runs.get.Goals as goal

pub returns-clause-drawn : goal.returns-clause-drawn
returns-clause-drawn c =
    copied-map drawing_kept c.get.result
    ∙ ap (option_map drawing_kept) (c.get.ensures.value ∙ sym (lookup-names (λ k. k.now) (bytes_eq c.args.name.now) c.self.inside.by_name.entries))
    ∙ ap (λ runs. drawing_in runs c.args.name.now) c.self.view_is

pub returns-clause-traced : goal.returns-clause-traced
returns-clause-traced c =
    subst (IsTracedAs c.args.name.now) (sym (c.get.ensures.value ∙ sym (lookup-names (λ k. k.now) (bytes_eq c.args.name.now) c.self.inside.by_name.entries)))
    (c.self.invariant c.args.name.now)
