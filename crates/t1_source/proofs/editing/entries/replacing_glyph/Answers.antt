use Rattle.std.proofs.Common.{◌≡◌, ◌<◌, length, Some, [], sym, subst, rules, refl}
use Rattle.std.specs.List.{position, slice_index_or}
use Rattle.t1_parts.specs.declared.item.Item.TheVariants.{Plain, Glyph}
use Rattle.t1_parts.specs.Entries.{is_glyph}
use Rattle.t1_source.specs.Changes.{IsInPlaceOf}
use Rattle.t1_source.specs.Editing.{body_words, closing_at, replaced_glyph}
use Rattle.t1_source.proofs.ChangeLaws.{glyph_fits, found_glyph_alone}
use Rattle.t1_source.proofs.editing.entries.replacing_glyph.Goals as goal

pub returns-clause-change : goal.returns-clause-change
unfolding replaced_glyph
returns-clause-change c k = search rules

pub returns-clause-fits : goal.returns-clause-fits
returns-clause-fits c k =
    let items = c.args.source.now.items in
    let name = c.args.name.now in
    let at = c.in-Some.at in
    let within : at < length items = search rules in
    let there : position (is_glyph name) items ≡ Some at = search rules in
    let same : c.in_ok-glyph.glyph ≡ Glyph name (body_words c.args.body.now) (closing_at at items) = search rules in
    (within, found_glyph_alone items name at there, subst (IsInPlaceOf (slice_index_or items at (Plain []))) (sym same) (glyph_fits items name name at _ _ refl there))
