use Rattle.std.proofs.Common.{◌∙◌, ap}
use Rattle.t1_font.specs.Glyphs.{glyph_names}
use Rattle.t1_font.specs.Runs.{drawing_in}
use Rattle.t1_faults.specs.Composites.{with_composites}
use Rattle.t1_faults.proofs.judging.faults_by_runs.Goals as goal

pub returns : goal.returns
returns c =
    let run = drawing_in c.args.runs.now.runs in
    c.in_ok-tell_composites.ensures
    ∙ ap (λ is. with_composites run (glyph_names is) c.in_ok-found.found.items) c.items.ensures
    ∙ ap (with_composites run (glyph_names c.args.source.now.items)) c.in_ok-found.ensures
