use Rattle.std.proofs.Common.{◌∙◌}
use Rattle.memchr.specs.Find.{is_byte3}
use Rattle.t1_text.proofs.ScanLaws.{first_place}
use Rattle.t1_text.proofs.lines.first_delimiter.Goals as goal

pub returns-clause-value : goal.returns-clause-value
returns-clause-value c = c.unwrap_or.ensures ∙ first_place (is_byte3 123 125 37) c.args.bytes.now c.memchr3.result c.memchr3.ensures
