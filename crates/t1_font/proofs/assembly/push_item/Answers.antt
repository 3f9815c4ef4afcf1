use Rattle.std.proofs.Common.{ap, refl, ◌∙◌, ◌++◌, ◌∷◌, codes, decimal}
use Rattle.t1_frac.specs.declared.fault.Place.TheVariants as places
use Rattle.t1_parts.specs.ItemRefs.{item_of}
use Rattle.t1_font.specs.Assembly.{item_line}
use Rattle.t1_font.specs.Lengths.{put_after}
use Rattle.t1_font.proofs.PrivateLaws.{entry_after}
use Rattle.t1_font.proofs.assembly.push_item.Goals as goal

pub returns-in_ok-push_subr-in-Subr : goal.returns-in_ok-push_subr-in-Subr
returns-in_ok-push_subr-in-Subr c =
    ap (λ item. put_after c.args.text.now.items (item_line c.args.lead c.args.operator.now (item_of item))) c.in-Subr.is
    ∙ entry_after c.args.text.now.items c.args.lead c.args.operator.now (places.Subr c.in-Subr.number) (codes "dup " ++ decimal c.in-Subr.number) c.in-Subr.words.now c.in-Subr.closing.now _ _ _ _
    c.in_ok-encrypt_subr-in-Subr.ensures c.deref.ensures.value refl c.in_ok-push_subr-in-Subr.ensures

pub returns-in_ok-push_glyph-in-Glyph : goal.returns-in_ok-push_glyph-in-Glyph
returns-in_ok-push_glyph-in-Glyph c =
    let name = c.in-Glyph.name.now in
    ap (λ item. put_after c.args.text.now.items (item_line c.args.lead c.args.operator.now (item_of item))) c.in-Glyph.is
    ∙ entry_after c.args.text.now.items c.args.lead c.args.operator.now (places.Glyph name) (47 ∷ name) c.in-Glyph.words.now c.in-Glyph.closing.now _ _ _ _
    c.in_ok-encrypt_glyph-in-Glyph.ensures c.deref-in-Glyph.ensures.value refl c.in_ok-push_glyph-in-Glyph.ensures
