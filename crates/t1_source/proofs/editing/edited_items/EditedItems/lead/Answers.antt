use Rattle.std.proofs.Common.{◌++◌, ◌∙◌, ap, sym}
use Rattle.t1_parts.specs.LenIV.{lead_among}
use Rattle.t1_source.proofs.EditedItemsLaws.{lead-first, lead-later}
use Rattle.t1_source.proofs.editing.edited_items.EditedItems.lead.Goals as goal

pub returns-then-say_lead : goal.returns-then-say_lead
returns-then-say_lead c =
    let s = c.args.self.now in
    c.lead_of.ensures ∙ ap lead_among c.again.ensures ∙ sym (lead-first s.before (s.put ++ s.after) (sym c.say_lead.ensures ∙ c.if-say_lead.true))

pub returns-then-say_lead-2 : goal.returns-then-say_lead-2
returns-then-say_lead-2 c =
    let s = c.args.self.now in
    c.lead_of-then-say_lead-2.ensures ∙ ap lead_among c.again-then-say_lead-2.ensures
    ∙ sym (lead-first s.put s.after (sym c.say_lead-2.ensures ∙ c.if-say_lead-2.true))
    ∙ sym (lead-later s.before (s.put ++ s.after) (sym c.say_lead.ensures ∙ c.if-say_lead.false))

pub returns : goal.returns
returns c =
    let s = c.args.self.now in
    c.lead_of-2.ensures ∙ ap lead_among c.again-2.ensures
    ∙ sym (lead-later s.put s.after (sym c.say_lead-2.ensures ∙ c.if-say_lead-2.false))
    ∙ sym (lead-later s.before (s.put ++ s.after) (sym c.say_lead.ensures ∙ c.if-say_lead.false))
