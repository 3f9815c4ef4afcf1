use Rattle.std.proofs.Common.{sym, arith}
use Rattle.t1_code.specs.Parts.{pieces_text}
use Rattle.t1_code.proofs.Encrypting.{length-eexec}
use Rattle.t1_code.proofs.Framing.{long_part, no_long_part}
use Rattle.t1_code.proofs.form.private_part_len.Goals as goal

pub returns-then-longest-gt-MAX_PART-clause-judged : goal.returns-then-longest-gt-MAX_PART-clause-judged
returns-then-longest-gt-MAX_PART-clause-judged c =
    let parts = c.args.parts.now in
    sym (long_part parts.clear.now (pieces_text parts) parts.trailer.now (omega (arith, length-eexec (pieces_text parts))))

pub returns-clause-judged : goal.returns-clause-judged
returns-clause-judged c =
    let parts = c.args.parts.now in
    sym (no_long_part parts.clear.now (pieces_text parts) parts.trailer.now (omega (arith, length-eexec (pieces_text parts))))

pub returns-clause-len : goal.returns-clause-len
returns-clause-len c = omega (arith, length-eexec (pieces_text c.args.parts.now))
