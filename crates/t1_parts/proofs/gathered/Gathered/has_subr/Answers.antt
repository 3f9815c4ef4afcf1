use Rattle.std.proofs.Common.{◌∙◌, ap}
use Rattle.t1_parts.specs.Entries.{has_numbered, is_subr}
use Rattle.t1_parts.proofs.gathered.Gathered.has_subr.Goals as goal

pub returns : goal.returns
returns c = c.contains.ensures ∙ c.self.invariant.2 c.args.number ∙ ap (has_numbered (is_subr c.args.number)) c.self.view_is
