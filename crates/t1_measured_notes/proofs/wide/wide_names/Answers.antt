use Rattle.std.proofs.Common.{◌∙◌, ◌+◌, suc, ap, sym, ◌∷◌, drop, drop-cons, add-one}
use Rattle.t1_measured_notes.proofs.Reach.{wide_kept}
use Rattle.t1_measured_notes.proofs.wide.wide_names.Goals as goal

pub loop-glyph-preserved : goal.loop-glyph-preserved
loop-glyph-preserved c =
    let glyphs = c.args.glyphs.now in
    let at = c.loop-glyph.glyph-index in
    let item = c.glyph-item.result in
    let left = drop-cons glyphs at item c.loop-glyph-test.true
    ∙ ap (λ g. g ∷ drop (suc at) glyphs) (sym c.glyph-item.is) ∙ ap (λ n. item ∷ drop n glyphs) (sym (add-one at)) in
    wide_kept c.loop-glyph.names.keys c.put_wide.new.names.keys item (drop at glyphs) (drop (at + 1) glyphs) glyphs left
    c.in_ok-put_wide.ensures
    c.loop-glyph.invariant
