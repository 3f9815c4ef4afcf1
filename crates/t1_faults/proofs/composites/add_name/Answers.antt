use Rattle.std.proofs.Common.{◌∙◌, ◌++◌, ◌∷◌, [], ap}
use Rattle.t1_faults.specs.GlyphRuns.{composites_kept}
use Rattle.t1_faults.proofs.CompositeLaws.{name_added}
use Rattle.t1_faults.proofs.composites.add_name.Goals as goal

pub returns : goal.returns
returns c = λ n.
    name_added n c.args.number c.args.name.now (composites_kept c.args.composites.now.entries) (composites_kept c.taken-names.new.composites.entries) (composites_kept c.keep.new.composites.entries)
    c.taken-names.result c.push.new.self c.taken-names.ensures.taken c.taken-names.ensures.others
    (c.in_ok-push.ensures ∙ ap (λ name. c.taken-names.result ++ name ∷ []) c.in_ok-copied.ensures) c.in_ok-keep.ensures
