use Rattle.std.proofs.Common.{◌≡◌, ◌∙◌, length, unwrap_or, rules}
use Rattle.std.specs.List.{position}
use Rattle.t1_source.specs.Leads.{is_section_line}
use Rattle.t1_source.proofs.ItemPlaceLaws.{place_or_len}
use Rattle.t1_source.proofs.editing.leads.before_sections.Goals as goal

pub returns-clause-value : goal.returns-clause-value
returns-clause-value c =
    let items = c.args.items.now in
    let here : c.unwrap_or.result ≡ unwrap_or (position is_section_line items) (length items) = search rules in
    here ∙ place_or_len is_section_line items
