use Rattle.std.proofs.Common.{◌≡◌, ◌<◌, length, Some, rules}
use Rattle.std.specs.List.{position}
use Rattle.t1_source.specs.Leads.{says_lead}
use Rattle.t1_source.proofs.ChangeLaws.{found_lead_alone}
use Rattle.t1_source.proofs.LeadEditLaws.{lead_fits}
use Rattle.t1_source.proofs.editing.leads.putting_lead.Goals as goal

pub returns-clause-fits : goal.returns-clause-fits
returns-clause-fits c k =
    let items = c.args.source.now.items in
    let at = c.in-Some.at in
    let within : at < length items = search rules in
    let there : position says_lead items ≡ Some at = search rules in
    (within, found_lead_alone items at there, lead_fits items at c.in_ok-line-2.line there)
