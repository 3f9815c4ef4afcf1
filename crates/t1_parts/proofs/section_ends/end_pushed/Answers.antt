use Rattle.std.proofs.Common.{◌∷◌, [], sym, ◌∙◌, arith}
use Rattle.t1_parts.proofs.SectionEndLaws.{pushed_some, pushed_other}
use Rattle.t1_parts.proofs.section_ends.end_pushed.Goals as goal

pub returns-then-is_section : goal.returns-then-is_section
returns-then-is_section c items size h = pushed_some c.args.len items (c.args.item.now ∷ []) (omega (arith, size))

pub returns-else-is_section : goal.returns-else-is_section
returns-else-is_section c items size h = pushed_other c.args.end items c.args.item.now (sym c.is_section.ensures ∙ c.if-is_section.false) h
