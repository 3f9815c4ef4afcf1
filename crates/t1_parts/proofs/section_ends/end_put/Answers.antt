use Rattle.std.proofs.Common.{sym, ◌∙◌, rules}
use Rattle.t1_parts.proofs.SectionEndLaws.{set_section, set_other}
use Rattle.t1_parts.proofs.section_ends.end_put.Goals as goal

pub returns-then-is_section : goal.returns-then-is_section
returns-then-is_section c items within h = set_section c.args.end c.args.at c.max.result items c.args.item.now (search rules) within h

pub returns-else-is_section : goal.returns-else-is_section
returns-else-is_section c items within h = set_other c.args.end c.args.at items c.args.item.now (sym c.is_section.ensures ∙ c.if-is_section.false) h
