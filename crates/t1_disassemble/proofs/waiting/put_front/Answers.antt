use Rattle.std.proofs.Common.{◌≡◌, ◌+◌, ◌≤◌, length, take, refl, sym, ap, ◌∙◌, rules}
use Rattle.std.proofs.lemmas.List.{length-take-le}
use Rattle.t1_disassemble.proofs.KnownWordLaws.{front_put}
use Rattle.t1_disassemble.proofs.waiting.put_front.Goals as goal

pub returns-clause-front : goal.returns-clause-front
returns-clause-front c =
    let within : c.args.len ≤ length c.args.bytes.now = search rules in
    let end : c.put_bytes-end.result ≡ c.args.len + 16 = search rules in
    front_put c.args.len 16 c.args.count c.args.bytes.now c.put_bytes-end.new.bytes c.args.more.now (take c.args.len c.args.bytes.now)
    c.requires.count refl (length-take-le c.args.len c.args.bytes.now within)
    (ap (λ n. take n c.put_bytes-end.new.bytes) (sym end) ∙ c.put_bytes-end.ensures.front)
