use Rattle.std.proofs.Common.{length, ap, arith}
use Rattle.std.proofs.lemmas.Bool.{leb-true}
use Rattle.t1_text.specs.Lines.{joined}
use Rattle.t1_font.proofs.LengthLaws.{short_file}
use Rattle.t1_font.proofs.lengths.is_short.Goals as goal

pub returns : goal.returns
returns c holds checked =
    let below = leb-true c.max-2.result 2147483647 holds in
    let within = c.max_private_len-private.ensures (omega (arith, below)) in
    short_file c.args.source.now c.max_private_len-private.result checked (rw (← c.lead.ensures, ← c.operator.ensures, ← c.items.ensures) within)
    (omega (arith, below, ap (λ lines. length (joined lines)) c.clear.ensures)) (omega (arith, below))
    (omega (arith, below, ap (λ lines. length (joined lines)) c.tail.ensures))
