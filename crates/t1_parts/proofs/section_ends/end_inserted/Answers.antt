use Rattle.std.proofs.Common.{sym, ◌∙◌, arith, rules}
use Rattle.t1_parts.proofs.SectionEndLaws.{inserted_section, inserted_before, inserted_among}
use Rattle.t1_parts.proofs.section_ends.end_inserted.Goals as goal

pub returns-then-is_section : goal.returns-then-is_section
returns-then-is_section c items within h = inserted_section c.args.end c.args.at c.max.result items c.args.item.now (search rules) within h

pub returns-then-at-end : goal.returns-then-at-end
returns-then-at-end c items within h = inserted_before c.args.end c.args.at items c.args.item.now within (omega (arith, c.if-at-end.true)) h

pub returns-else-at-end : goal.returns-else-at-end
returns-else-at-end c items within h = inserted_among c.args.end c.args.at items c.args.item.now within (omega (arith, c.if-at-end.false)) (sym c.is_section.ensures ∙ c.if-is_section.false) h
