use Rattle.t1_font.specs.Bodies.{subr_among}
use Rattle.t1_font.specs.KeptBodies.{glyph_body_kept, subr_body_kept}
use Rattle.t1_font.specs.ToRun.{glyph_to_run}
use Rattle.t1_faults.proofs.ToRunLaws.{same_fonts}
use Rattle.t1_faults.proofs.to_run.bodies_to_run.Goals as goal

pub returns : goal.returns
returns c =
    same_fonts (subr_body_kept c.add_items.new.subrs.entries) (subr_among c.args.items.now) (glyph_body_kept c.add_items.new.glyphs.entries) (glyph_to_run c.args.items.now)
    c.in_ok-add_items.ensures.subrs c.in_ok-add_items.ensures.glyphs
