use Rattle.std.proofs.Common.{rules, ◌≡◌, ◌++◌, length, replicate, ap, ◌∙◌}
use Rattle.t1_code.proofs.Encrypting.{items_encrypted}
use Rattle.t1_code.proofs.charstring.encrypt.Goals as goal

pub returns : goal.returns
returns c =
    let bytes = c.extend_from_slice.new.self in
    let lead : c.in_ok-bytes.bytes.items ≡ replicate c.args.lead 0 = search rules in
    let len : bytes.len ≡ length bytes.items = search rules in
    items_encrypted c.args.key c.new.result bytes.len bytes.items c.deref_mut.result.now c.encrypt.new.bytes (replicate c.args.lead 0 ++ c.args.plain.now) len c.deref_mut.ensures.value
    (c.in_ok-extend_from_slice.ensures.items ∙ ap (λ l. l ++ c.args.plain.now) lead) c.new.ensures c.encrypt.ensures.bytes
