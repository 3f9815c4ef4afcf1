use Rattle.std.proofs.Common.{subst}
use Rattle.t1_font.specs.Bodies.{bodies}
use Rattle.t1_charstrings.specs.Kept.{Encrypt}
use Rattle.t1_source.specs.EditedItems.{edited_items}
use Rattle.t1_charstrings.proofs.encrypted_items.charstrings_of.Goals as goal

pub returns-clause-kept : goal.returns-clause-kept
returns-clause-kept c =
    subst (λ front. Encrypt front (bodies (edited_items c.args.items.now)) c.add_parts.new.charstrings) c.lead-lead.ensures c.in_ok-add_parts.ensures.kept
