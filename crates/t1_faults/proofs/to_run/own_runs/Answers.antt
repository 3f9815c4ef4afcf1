use Rattle.std.proofs.Common.{ap, map, ◌∙◌}
use Rattle.t1_run.specs.Run.{FontBodies}
use Rattle.t1_font.specs.KeptBodies.{glyph_body_kept, subr_body_kept}
use Rattle.t1_faults.proofs.ToRunLaws.{kept_own, names_there}
use Rattle.t1_faults.proofs.to_run.own_runs.Goals as goal

pub runs_of-requires : goal.runs_of-requires
runs_of-requires c =
    names_there (glyph_body_kept c.args.bodies.now.glyphs.entries) c.args.items.now c.deref.result.now (λ g. ap (λ (m : FontBodies). m.glyphs g) c.requires)
    (ap (map (λ name. name.now)) c.deref.ensures.value ∙ c.in_ok-names.ensures)

pub returns : goal.returns
returns c =
    kept_own c.args.items.now (subr_body_kept c.args.bodies.now.subrs.entries) (glyph_body_kept c.args.bodies.now.glyphs.entries)
    (λ n. ap (λ (m : FontBodies). m.subrs n) c.requires) (λ g. ap (λ (m : FontBodies). m.glyphs g) c.requires)
    c.deref.result.now (ap (map (λ name. name.now)) c.deref.ensures.value ∙ c.in_ok-names.ensures) c.runs_of.result c.runs_of.ensures.kept
