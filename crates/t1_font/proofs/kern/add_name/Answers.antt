use Rattle.std.proofs.Common.{◌∙◌, ap}
use Rattle.t1_font.specs.Names.{is_name_kept}
use Rattle.t1_font.proofs.Naming.{name-inserted}
use Rattle.t1_font.proofs.kern.add_name.Goals as goal

pub returns : goal.returns
returns c = λ g.
    let old = c.args.names.now.keys in
    ap (λ keys. is_name_kept keys g) c.in_ok-insert.ensures.keys ∙ name-inserted (λ k. k.now) g c.args.name old
