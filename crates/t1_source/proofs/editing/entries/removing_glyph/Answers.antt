use Rattle.std.proofs.Common.{◌≡◌, ◌<◌, length, Some, rules}
use Rattle.std.specs.List.{position}
use Rattle.t1_parts.specs.Entries.{is_glyph}
use Rattle.t1_source.specs.Editing.{removed_glyph}
use Rattle.t1_source.proofs.ChangeLaws.{found_glyph_alone}
use Rattle.t1_source.proofs.editing.entries.removing_glyph.Goals as goal

pub returns-clause-change : goal.returns-clause-change
unfolding removed_glyph
returns-clause-change c k = search rules

pub returns-clause-fits : goal.returns-clause-fits
returns-clause-fits c k =
    let items = c.args.source.now.items in
    let at = c.in-Some.at in
    let within : at < length items = search rules in
    let there : position (is_glyph c.args.name.now) items ≡ Some at = search rules in
    (within, found_glyph_alone items c.args.name.now at there)
