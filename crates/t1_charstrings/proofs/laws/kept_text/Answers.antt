use Rattle.t1_charstrings.proofs.Texts.{kept_text_is}
use Rattle.t1_charstrings.proofs.laws.kept_text.Goals as goal

pub returns : goal.returns
returns c = kept_text_is
