use Rattle.std.proofs.Common.{◌∙◌, ap}
use Rattle.std.specs.Prelude.{nat_eq}
use Rattle.std.specs.Map.{lookup}
use Rattle.t1_code.specs.Encoding.{standard_name}
use Rattle.t1_code.proofs.encoding.standard_name.Goals as goal

pub returns : goal.returns
unfolding standard_name
returns c = c.find.ensures ∙ ap (lookup (nat_eq c.args.code)) c.standard_table.ensures
