use Rattle.std.proofs.Common.{◌≡◌, ◌∙◌, ◌-◌, length, reverse, unwrap_or, rules}
use Rattle.std.specs.List.{position}
use Rattle.t1_source.specs.Editing.{is_slot_of}
use Rattle.t1_source.proofs.ItemPlaceLaws.{through_found}
use Rattle.t1_source.proofs.editing.slots.through_slots_of.Goals as goal

pub returns-clause-value : goal.returns-clause-value
returns-clause-value c =
    let lines = c.args.lines.now in
    let here : c.through.result ≡ length lines - unwrap_or (position (is_slot_of c.args.code) (reverse lines)) (length lines) = search rules in
    here ∙ through_found (is_slot_of c.args.code) lines
