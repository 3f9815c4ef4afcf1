use Rattle.std.proofs.Common.{◌≡◌, ◌∙◌, ℕ, map, ap, subst}
use Rattle.std.specs.Prelude.{IfOk}
use Rattle.t1_font.specs.Glyphs.{glyph_names}
use Rattle.t1_font.specs.Runs.{drawing_in}
use Rattle.t1_faults.specs.GlyphRuns.{composites_kept, composites_on, number_kept}
use Rattle.t1_faults.proofs.composites.composites_among.Goals as goal

pub returns : goal.returns
returns c =
    let names_same : map (λ name. name.now) c.deref.result.now ≡ glyph_names c.args.items.now = ap (map (λ name. name.now)) c.deref.ensures.value ∙ c.in_ok-glyphs.ensures in
    subst
    (λ gs. IfOk c.composites_on.result (λ composites. (n : ℕ) → composites_kept composites.entries n ≡ composites_on (number_kept c.args.numbers.now.entries) (drawing_in c.args.runs.now) gs n))
    names_same c.composites_on.ensures
