use Rattle.std.proofs.Common.{rules, ◌≡◌, ◌++◌, length, replicate, ap, ◌∙◌}
use Rattle.t1_code.specs.Charstring.{charstring}
use Rattle.t1_code.proofs.Encrypting.{items_encrypted}
use Rattle.t1_code.proofs.charstring.encrypted_charstring.Goals as goal

pub returns : goal.returns
returns c =
    let code = c.push_commands.new.code in
    let plain = charstring c.args.commands.now in
    let lead : c.in_ok-code.code.items ≡ replicate c.args.lead 0 = search rules in
    let len : code.len ≡ length code.items = search rules in
    items_encrypted 4330 c.new.result code.len code.items c.deref_mut.result.now c.encrypt.new.bytes (replicate c.args.lead 0 ++ plain) len c.deref_mut.ensures.value
    (c.in_ok-push_commands.ensures ∙ ap (λ l. l ++ plain) lead) c.new.ensures c.encrypt.ensures.bytes
