use Rattle.std.proofs.Common.{◌∙◌}
use Rattle.t1_text.specs.Lines.{is_line_end}
use Rattle.t1_text.proofs.ScanLaws.{first_place}
use Rattle.t1_disassemble.proofs.front.line_len.Goals as goal

pub returns-clause-value : goal.returns-clause-value
returns-clause-value c = c.unwrap_or.ensures ∙ first_place is_line_end c.args.bytes.now c.memchr2.result c.memchr2.ensures
