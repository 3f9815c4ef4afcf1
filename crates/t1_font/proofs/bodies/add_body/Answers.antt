use Rattle.std.proofs.Common.{refl}
use Rattle.t1_font.specs.KeptBodies.{glyph_body_kept, subr_body_kept}
use Rattle.t1_font.proofs.Compiling.{on_ok, or-none}
use Rattle.t1_font.proofs.bodies.add_body.Goals as goal

pub returns-in-Subr-clause-checked : goal.returns-in-Subr-clause-checked
returns-in-Subr-clause-checked c = rw c.in-Subr.is c.add_subr.ensures.checked

pub returns-in-Subr-clause-subrs : goal.returns-in-Subr-clause-subrs
returns-in-Subr-clause-subrs c = rw c.in-Subr.is c.add_subr.ensures.kept

pub returns-in-Subr-clause-glyphs : goal.returns-in-Subr-clause-glyphs
returns-in-Subr-clause-glyphs c = rw c.in-Subr.is (on_ok c.add_subr.result (λ g. or-none (glyph_body_kept c.args.glyphs.now.entries g)))

pub returns-in-Glyph-clause-checked : goal.returns-in-Glyph-clause-checked
returns-in-Glyph-clause-checked c = rw (c.in-Glyph.is, ← c.as_slice.ensures) c.add_glyph.ensures.checked

pub returns-in-Glyph-clause-subrs : goal.returns-in-Glyph-clause-subrs
returns-in-Glyph-clause-subrs c = rw c.in-Glyph.is (on_ok c.add_glyph.result (λ n. or-none (subr_body_kept c.args.subrs.now.entries n)))

pub returns-in-Glyph-clause-glyphs : goal.returns-in-Glyph-clause-glyphs
returns-in-Glyph-clause-glyphs c = rw (c.in-Glyph.is, ← c.as_slice.ensures) c.add_glyph.ensures.kept

pub returns-in-Plain-clause-checked : goal.returns-in-Plain-clause-checked
returns-in-Plain-clause-checked c = rw c.in-Plain.is refl

pub returns-in-Plain-clause-subrs : goal.returns-in-Plain-clause-subrs
returns-in-Plain-clause-subrs c = rw c.in-Plain.is (λ n. or-none (subr_body_kept c.args.subrs.now.entries n))

pub returns-in-Plain-clause-glyphs : goal.returns-in-Plain-clause-glyphs
returns-in-Plain-clause-glyphs c = rw c.in-Plain.is (λ g. or-none (glyph_body_kept c.args.glyphs.now.entries g))

pub returns-in-Section-clause-checked : goal.returns-in-Section-clause-checked
returns-in-Section-clause-checked c = rw c.in-Section.is refl

pub returns-in-Section-clause-subrs : goal.returns-in-Section-clause-subrs
returns-in-Section-clause-subrs c = rw c.in-Section.is (λ n. or-none (subr_body_kept c.args.subrs.now.entries n))

pub returns-in-Section-clause-glyphs : goal.returns-in-Section-clause-glyphs
returns-in-Section-clause-glyphs c = rw c.in-Section.is (λ g. or-none (glyph_body_kept c.args.glyphs.now.entries g))
