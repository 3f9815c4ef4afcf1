use Rattle.std.proofs.Common.{ap, sym, ◌∙◌}
use Rattle.t1_refusal.specs.Entries.{glyph_named, words_at_place, words_of_found}
use Rattle.t1_refusal.proofs.entries.place_words.Goals as goal

pub returns-in-Glyph : goal.returns-in-Glyph
returns-in-Glyph c =
    c.words_of-in-Glyph.ensures ∙ ap words_of_found (c.glyph_named.ensures ∙ ap (λ g. glyph_named g c.args.items.now) c.as_slice.ensures)
    ∙ sym (ap (words_at_place c.args.items.now) c.in-Glyph.is)
