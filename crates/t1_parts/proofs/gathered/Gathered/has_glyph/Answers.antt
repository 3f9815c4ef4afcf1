use Rattle.std.proofs.Common.{◌∙◌, ap}
use Rattle.t1_parts.specs.Entries.{has_numbered, is_glyph}
use Rattle.t1_parts.proofs.gathered.Gathered.has_glyph.Goals as goal

pub returns : goal.returns
returns c = c.contains.ensures ∙ c.self.invariant.3 c.args.name.now ∙ ap (has_numbered (is_glyph c.args.name.now)) c.self.view_is
