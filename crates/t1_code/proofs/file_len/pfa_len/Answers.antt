use Rattle.std.proofs.Common.{sym}
use Rattle.t1_code.specs.Cipher.{eexec}
use Rattle.t1_code.specs.Parts.{pieces_text}
use Rattle.t1_code.proofs.Summing.{pfa_sum}
use Rattle.t1_code.proofs.file_len.pfa_len.Goals as goal

pub returns : goal.returns
returns c =
    let parts = c.args.parts.now in
    let private = pieces_text parts in
    pfa_sum parts.clear.now private parts.trailer.now c.lines_len-private.result (sym c.in_ok-private_len.ensures.judged)
    (c.lines_len-private.ensures.len (eexec private) (sym c.in_ok-private_len.ensures.len))
