use Rattle.std.proofs.Common.{◌≡◌, ℕ, subst}
use Rattle.std.specs.Prelude.{IfOk}
use Rattle.t1_font.specs.Glyphs.{glyph_names}
use Rattle.t1_font.specs.Runs.{drawing_in}
use Rattle.t1_faults.specs.GlyphRuns.{composites_kept, composites_on, first_naming, number_kept}
use Rattle.t1_faults.proofs.composites.numbered_composites.Goals as goal

pub returns : goal.returns
returns c =
    let numbers_same : number_kept c.in_ok-numbers.numbers.entries ≡ first_naming 0 c.args.found.now = λ j. λ g. c.in_ok-numbers.ensures g j in
    subst
    (λ numbers. IfOk c.composites_among.result (λ composites. (n : ℕ) → composites_kept composites.entries n ≡ composites_on numbers (drawing_in c.args.runs.now) (glyph_names c.args.items.now) n))
    numbers_same c.composites_among.ensures
