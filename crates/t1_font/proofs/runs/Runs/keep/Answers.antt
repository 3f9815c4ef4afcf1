use Rattle.std.proofs.Common.{◌∙◌, sym, ap, cond, map, Some}
use Rattle.std.specs.Str.{bytes_eq}
use Rattle.std.specs.Map.{lookup}
use Rattle.t1_font.specs.Runs.{run_kept}
use Rattle.t1_font.proofs.Keeping.{lookup-names, one-traced}
use Rattle.t1_font.proofs.Lookups.{bytes_tell, inserted-at}
use Rattle.t1_font.proofs.runs.Runs.keep.Goals as goal

pub returns : goal.returns
returns c = λ g.
    let old = c.self.inside.by_name.entries in
    lookup-names (λ k. k.now) (bytes_eq g) c.insert.new.self.entries
    ∙ ap (λ es. lookup (λ k. bytes_eq g k.now) es) c.in_ok-insert.ensures.entries
    ∙ inserted-at bytes_eq bytes_tell (λ k. k.now) g c.args.name c.args.kept old
    ∙ ap (cond (bytes_eq g c.args.name.now) (Some c.args.kept))
    (sym (lookup-names (λ k. k.now) (bytes_eq g) old) ∙ ap (λ runs. run_kept runs g) c.self.view_is)

pub invariant_of-self-2 : goal.invariant_of-self-2
invariant_of-self-2 c =
    let old = c.self.inside.by_name.entries in
    let new = c.insert.new.self.entries in
    one-traced (map (λ e. (e.0.now, e.1)) old) (map (λ e. (e.0.now, e.1)) new) c.args.name.now c.args.kept
    (λ q. lookup-names (λ k. k.now) (bytes_eq q) new
    ∙ ap (λ es. lookup (λ k. bytes_eq q k.now) es) c.in_ok-insert.ensures.entries
    ∙ inserted-at bytes_eq bytes_tell (λ k. k.now) q c.args.name c.args.kept old
    ∙ ap (cond (bytes_eq q c.args.name.now) (Some c.args.kept)) (sym (lookup-names (λ k. k.now) (bytes_eq q) old)))
    c.requires c.self.invariant
