use Rattle.std.proofs.Common.{◌≡◌, ◌∙◌, ap}
use Rattle.t1_font.specs.Glyphs.{glyph_names}
use Rattle.t1_font.specs.Runs.{drawing_in}
use Rattle.t1_faults.specs.GlyphRuns.{composites_kept, composites_on, each_numbered, first_naming}
use Rattle.t1_faults.proofs.CompositeLaws.{same_numbered}
use Rattle.t1_faults.proofs.composites.tell_composites.Goals as goal

pub returns : goal.returns
returns c =
    let found = c.args.found.now.items in
    let run = drawing_in c.args.runs.now in
    let glyphs = glyph_names c.args.items.now in
    let kept_same : composites_kept c.in_ok-composites.composites.entries ≡ composites_on (first_naming 0 found) run glyphs = λ j. λ n.
    (c.in_ok-composites.ensures n ∙ ap (λ fs. composites_on (first_naming 0 fs) run glyphs n) c.deref.ensures.value) j in
    c.in_ok-give_each.ensures ∙ ap (λ composites. each_numbered composites 0 found) kept_same ∙ same_numbered run glyphs found
