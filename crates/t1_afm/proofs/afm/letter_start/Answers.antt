use Rattle.std.proofs.Common.{◌∙◌, ap, length}
use Rattle.std.specs.Option.{unwrap_or}
use Rattle.t1_afm.proofs.Letters.{letter_or_length}
use Rattle.t1_afm.proofs.afm.letter_start.Goals as goal

pub returns-clause-value : goal.returns-clause-value
returns-clause-value c =
    c.unwrap_or.ensures ∙ ap (λ r. unwrap_or r (length c.args.chars.now)) c.letter_at.ensures.value ∙ letter_or_length c.args.chars.now
