use Rattle.std.proofs.Common.{refl, sym}
use Rattle.t1_code.specs.Cipher.{eexec}
use Rattle.t1_code.specs.Parts.{pieces_text}
use Rattle.t1_code.proofs.Summing.{pfb_sum}
use Rattle.t1_code.proofs.file_len.pfb_len.Goals as goal

pub returns : goal.returns
returns c =
    let parts = c.args.parts.now in
    let private = pieces_text parts in
    pfb_sum c.args.size parts.clear.now private parts.trailer.now c.segments_len-clear.result c.segments_len-private.result c.segments_len-trailer.result (sym c.in_ok-private_len.ensures.judged)
    (c.segments_len-clear.ensures.len 1 parts.clear.now refl)
    (c.segments_len-private.ensures.len 2 (eexec private) (sym c.in_ok-private_len.ensures.len))
    (c.segments_len-trailer.ensures.len 1 parts.trailer.now refl)
