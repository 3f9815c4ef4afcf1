use Rattle.std.proofs.Common.{◌++◌, ◌∙◌, ap, sym}
use Rattle.t1_parts.specs.Operator.{operator_among}
use Rattle.t1_source.proofs.EditedItemsLaws.{operator-first, operator-later}
use Rattle.t1_source.proofs.editing.edited_items.EditedItems.operator.Goals as goal

pub returns-then-read_strings : goal.returns-then-read_strings
returns-then-read_strings c =
    let s = c.args.self.now in
    c.operator_of.ensures ∙ ap operator_among c.again.ensures ∙ sym (operator-first s.before (s.put ++ s.after) (sym c.read_strings.ensures ∙ c.if-read_strings.true))

pub returns-then-read_strings-2 : goal.returns-then-read_strings-2
returns-then-read_strings-2 c =
    let s = c.args.self.now in
    c.operator_of-then-read_strings-2.ensures ∙ ap operator_among c.again-then-read_strings-2.ensures
    ∙ sym (operator-first s.put s.after (sym c.read_strings-2.ensures ∙ c.if-read_strings-2.true))
    ∙ sym (operator-later s.before (s.put ++ s.after) (sym c.read_strings.ensures ∙ c.if-read_strings.false))

pub returns : goal.returns
returns c =
    let s = c.args.self.now in
    c.operator_of-2.ensures ∙ ap operator_among c.again-2.ensures
    ∙ sym (operator-later s.put s.after (sym c.read_strings-2.ensures ∙ c.if-read_strings-2.false))
    ∙ sym (operator-later s.before (s.put ++ s.after) (sym c.read_strings.ensures ∙ c.if-read_strings.false))
