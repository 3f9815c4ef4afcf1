use Rattle.std.proofs.Common.{Err, ap, sym, ◌∙◌}
use Rattle.t1_parts.proofs.LeadLaws.{checked_well, checked_ill}
use Rattle.t1_parts.proofs.gathered.check_lead.Goals as goal

pub returns-in_default-lead_on : goal.returns-in_default-lead_on
returns-in_default-lead_on c =
    ap Err c.fault_on.ensures ∙ sym (checked_ill c.args.items.now (c.in-Some.number, c.in-Some.item.now) (sym c.in-Some.ensures) (sym c.in_default-lead_on.ensures))

pub returns : goal.returns
returns c = sym (checked_well c.args.items.now (c.in-Some.number, c.in-Some.item.now) c.in-Some-lead_on.lead (sym c.in-Some.ensures) (sym c.in-Some-lead_on.ensures))
