use Rattle.std.proofs.Common.{◌∙◌, ap}
use Rattle.t1_notes.specs.Tables.{is_among_names}
use Rattle.t1_notes.proofs.Naming.{name_put}
use Rattle.t1_notes.proofs.names.put_name.Goals as goal

pub returns : goal.returns
returns c = λ glyph. ap (λ ks. is_among_names ks glyph) c.in_ok-insert.ensures.keys ∙ name_put glyph c.args.name c.args.names.now.keys
