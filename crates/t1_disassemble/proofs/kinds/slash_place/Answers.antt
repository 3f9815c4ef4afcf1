use Rattle.std.proofs.Common.{◌==◌, ◌∙◌}
use Rattle.t1_text.proofs.ScanLaws.{first_place}
use Rattle.t1_disassemble.proofs.kinds.slash_place.Goals as goal

pub returns-clause-value : goal.returns-clause-value
returns-clause-value c = c.unwrap_or.ensures ∙ first_place (λ b. b == 47) c.args.bytes.now c.memchr.result c.memchr.ensures
