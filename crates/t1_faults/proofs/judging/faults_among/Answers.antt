use Rattle.std.proofs.Common.{◌≡◌, ◌∙◌, ap, map, subst}
use Rattle.std.specs.Prelude.{IfOk}
use Rattle.t1_run.specs.Run.{own}
use Rattle.t1_font.specs.Glyphs.{glyph_names}
use Rattle.t1_font.specs.Runs.{drawing_in}
use Rattle.t1_font.specs.ToRun.{font_to_run}
use Rattle.t1_faults.specs.Composites.{with_composites}
use Rattle.t1_faults.specs.CodeForms.{entry_in_text}
use Rattle.t1_faults.specs.Failing.{failures_in}
use Rattle.t1_faults.specs.GlyphRuns.{failures_of}
use Rattle.t1_faults.specs.Judging.{faults_by}
use Rattle.t1_faults.specs.Met.{failed_runs}
use Rattle.t1_faults.proofs.judging.faults_among.Goals as goal

pub returns : goal.returns
returns c =
    let s = c.args.source.now in
    let es = map entry_in_text c.args.entries.now in
    let runs = c.in_ok-runs.runs in
    let run = own (font_to_run s.items) in
    let same : drawing_in runs.runs ≡ run = c.in_ok-runs.ensures.runs ∙ ap (λ is. own (font_to_run is)) c.items.ensures in
    let fails : failures_of runs ≡ failures_in s.items = c.in_ok-runs.ensures.failures ∙ ap failures_in c.items.ensures in
    subst (λ all. IfOk c.faults_by_runs.result (λ found. found.items ≡ all))
    (ap (λ r. with_composites r (glyph_names s.items) (faults_by (failed_runs (failures_of runs) es) r s es)) same
    ∙ ap (λ f. with_composites run (glyph_names s.items) (faults_by (failed_runs f es) run s es)) fails)
    c.faults_by_runs.ensures
