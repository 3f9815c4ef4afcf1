use Rattle.std.proofs.Common.{◌++◌, ◌∙◌, ap, append_assoc, map, sym}
use Rattle.t1_source.specs.EditedItems.{edited_items}
use Rattle.t1_font.specs.Glyphs.{glyph_names}
use Rattle.t1_rerun.proofs.OrderNames.{raised-names, three-names}
use Rattle.t1_rerun.proofs.order.names_of.Goals as goal

pub returns : goal.returns
returns c =
    let edited = c.items-before.result in
    let before = glyph_names edited.before in
    let put = glyph_names edited.put in
    let after = glyph_names edited.after in
    c.in_ok-push_names-3.ensures
    ∙ ap (λ l. l ++ after)
    (c.in_ok-push_names-2.ensures ∙ ap (λ l. l ++ put) (c.in_ok-push_names.ensures ∙ ap (λ l. map (λ name. name.now) l ++ before) c.new-names.ensures.items))
    ∙ append_assoc before put after
    ∙ three-names edited.before edited.put edited.after
    ∙ sym (raised-names (edited_items edited))
    ∙ ap glyph_names c.items-before.ensures.items
