use Rattle.std.proofs.Common.{◌≡◌, ◌<◌, length, Some, rules}
use Rattle.std.specs.List.{position}
use Rattle.t1_parts.specs.Entries.{is_subr}
use Rattle.t1_source.specs.Editing.{removed_subr}
use Rattle.t1_source.proofs.ChangeLaws.{found_subr_alone}
use Rattle.t1_source.proofs.editing.entries.removing_subr.Goals as goal

pub returns-clause-change : goal.returns-clause-change
unfolding removed_subr
returns-clause-change c k = search rules

pub returns-clause-fits : goal.returns-clause-fits
returns-clause-fits c k =
    let items = c.args.source.now.items in
    let number = c.in_ok-number.number in
    let at = c.in-Some.at in
    let within : at < length items = search rules in
    let there : position (is_subr number) items ≡ Some at = search rules in
    (within, found_subr_alone items number at there)
