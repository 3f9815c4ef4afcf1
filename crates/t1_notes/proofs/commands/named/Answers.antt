use Rattle.std.proofs.Common.{◌∙◌, ap, bytes_eq}
use Rattle.std.specs.Map.{lookup}
use Rattle.t1_code.specs.Words.{operator_named}
use Rattle.t1_notes.proofs.commands.named.Goals as goal

pub returns : goal.returns
unfolding operator_named
returns c = c.find.ensures ∙ ap (lookup (bytes_eq c.args.word.now)) c.commands.ensures
