use Rattle.std.proofs.Common.{◌≡◌, ◌<◌, length, Some, [], sym, subst, rules, refl}
use Rattle.std.specs.List.{position, slice_index_or}
use Rattle.t1_parts.specs.declared.item.Item.TheVariants.{Plain, Subr}
use Rattle.t1_parts.specs.Entries.{is_subr}
use Rattle.t1_source.specs.Changes.{IsInPlaceOf}
use Rattle.t1_source.specs.Editing.{body_words, closing_at, replaced_subr}
use Rattle.t1_source.proofs.ChangeLaws.{subr_fits, found_subr_alone}
use Rattle.t1_source.proofs.editing.entries.replacing_subr.Goals as goal

pub returns-clause-change : goal.returns-clause-change
unfolding replaced_subr
returns-clause-change c k = search rules

pub returns-clause-fits : goal.returns-clause-fits
returns-clause-fits c k =
    let items = c.args.source.now.items in
    let number = c.in_ok-number.number in
    let at = c.in-Some.at in
    let within : at < length items = search rules in
    let there : position (is_subr number) items ≡ Some at = search rules in
    let same : c.in_ok-subr.subr ≡ Subr number (body_words c.args.body.now) (closing_at at items) = search rules in
    (within, found_subr_alone items number at there, subst (IsInPlaceOf (slice_index_or items at (Plain []))) (sym same) (subr_fits items number number at _ _ refl there))
