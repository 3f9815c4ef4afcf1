use Rattle.std.proofs.Common.{◌∙◌}
use Rattle.t1_text.specs.Delimiters.{is_brace}
use Rattle.t1_parts.proofs.PlaceLaws.{any_found}
use Rattle.t1_parts.proofs.body.has_any_brace.Goals as goal

pub returns : goal.returns
returns c = c.is_some.ensures ∙ any_found is_brace c.args.line.now c.memchr2.result c.memchr2.ensures
