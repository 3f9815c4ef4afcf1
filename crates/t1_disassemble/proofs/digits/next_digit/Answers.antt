use Rattle.std.proofs.Common.{sym, ◌∙◌, rules}
use Rattle.std.proofs.lemmas.List.{nil_from_length}
use Rattle.t1_disassemble.proofs.DigitValues.{values_end}
use Rattle.t1_disassemble.proofs.digits.next_digit.Goals as goal

pub returns-in_default-clause-value : goal.returns-in_default-clause-value
returns-in_default-clause-value c =
    values_end c.args.text.now (sym c.skip_blanks.ensures ∙ nil_from_length c.skip_blanks.result.now (search rules))
