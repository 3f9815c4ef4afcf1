-- Each glyph of a source without a fault draws.
use Rattle.t1_run.specs.Composite.{outline}
use Rattle.t1_run.specs.Run.{own}
use Rattle.t1_font.specs.Bodies.{bodies}
use Rattle.t1_font.specs.Glyphs.{glyph_names}
use Rattle.t1_cache.specs.Joins.{AllDrawLaw}
use Rattle.t1_cache.proofs.Judging.{IsFine, fine-reported, drew}
use Rattle.t1_cache.proofs.Newest.{found}
use Rattle.t1_cache.proofs.Renewing.{glyphs-of}

pub all_draw : AllDrawLaw
all_draw s reported e g body there =
    let run = own (bodies s.items) in
    let draws = outline (bodies s.items) in
    let fine = fine-reported run draws (glyph_names s.items) reported (glyphs-of s reported e) in
    let here = found (IsFine run draws) g body s.items fine there in
    drew g (run g) (draws g) here.0 here.1
