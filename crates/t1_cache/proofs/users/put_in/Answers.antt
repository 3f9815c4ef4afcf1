use Rattle.std.proofs.Common.{◌∙◌, ap}
use Rattle.t1_cache.specs.Users.{is_name_among}
use Rattle.t1_font.proofs.Naming.{name-inserted}
use Rattle.t1_cache.proofs.users.put_in.Goals as goal

pub returns-clause-names : goal.returns-clause-names
returns-clause-names c = λ u.
    let put = rw c.unwrap.ensures at c.insert.ensures.keys in
    ap (λ keys. is_name_among (λ k. k.items) keys u) put ∙ name-inserted (λ k. k.items) u c.args.name c.args.names.now.keys
