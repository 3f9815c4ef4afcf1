use Rattle.std.proofs.Common.{◌∙◌, ap, drop}
use Rattle.t1_afm.specs.Afm.{heights}
use Rattle.t1_afm.proofs.Letters.{heights_from}
use Rattle.t1_afm.proofs.afm.from_letter.Goals as goal

pub returns : goal.returns
returns c =
    ap heights c.split_at.ensures.back
    ∙ ap (λ n. heights (drop n c.args.chars.now)) c.letter_start.ensures.value
    ∙ heights_from c.args.chars.now
