use Rattle.std.proofs.Common.{◌∙◌, sym, ap, cond, map, None}
use Rattle.std.specs.Str.{bytes_eq}
use Rattle.t1_font.specs.Runs.{run_kept}
use Rattle.t1_font.proofs.Keeping.{lookup-names, lookup-taken, rest-traced}
use Rattle.t1_font.proofs.runs.Runs.take.Goals as goal

pub returns-clause-taken : goal.returns-clause-taken
returns-clause-taken c =
    c.swap_remove.ensures.value
    ∙ sym (lookup-names (λ k. k.now) (bytes_eq c.args.name.now) c.self.inside.by_name.entries)
    ∙ ap (λ runs. run_kept runs c.args.name.now) c.self.view_is

pub returns-clause-others : goal.returns-clause-others
returns-clause-others c = λ g.
    let old = c.self.inside.by_name.entries in
    lookup-names (λ k. k.now) (bytes_eq g) c.swap_remove.new.self.entries
    ∙ lookup-taken (λ k. k.now) old c.swap_remove.new.self.entries c.args.name.now c.swap_remove.ensures.updates.0 g
    ∙ ap (cond (bytes_eq c.args.name.now g) None) (sym (lookup-names (λ k. k.now) (bytes_eq g) old) ∙ ap (λ runs. run_kept runs g) c.self.view_is)

pub invariant_of-self : goal.invariant_of-self
invariant_of-self c =
    let old = c.self.inside.by_name.entries in
    let new = c.swap_remove.new.self.entries in
    rest-traced (map (λ e. (e.0.now, e.1)) old) (map (λ e. (e.0.now, e.1)) new) c.args.name.now
    (λ q. lookup-names (λ k. k.now) (bytes_eq q) new
    ∙ lookup-taken (λ k. k.now) old new c.args.name.now c.swap_remove.ensures.updates.0 q
    ∙ ap (cond (bytes_eq c.args.name.now q) None) (sym (lookup-names (λ k. k.now) (bytes_eq q) old)))
    c.self.invariant
