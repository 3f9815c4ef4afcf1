use Rattle.std.proofs.Common.{◌∙◌, ap, sym, arith}
use Rattle.std.specs.Char.{is_ascii_digit}
use Rattle.std.specs.List.{prefix_len}
use Rattle.t1_code.proofs.Scanning.{empty_first, leading_found, number_text, other_found, past_number}
use Rattle.t1_code.proofs.words.first_number.Goals as goal

pub returns-then-count-eq0-clause-value : goal.returns-then-count-eq0-clause-value
returns-then-count-eq0-clause-value c =
    empty_first c.args.text.now (ap (prefix_len is_ascii_digit) (sym c.digits_of_word-digits.ensures) ∙ sym c.leading_number-size.ensures.count ∙ c.if-count-eq0.true)

pub returns-in_default-clause-value : goal.returns-in_default-clause-value
returns-in_default-clause-value c =
    other_found c.args.text.now c.digits_of_word-digits.result.now c.split_at.result.1.now c.leading_number-size.result.1
    c.digits_of_word-digits.ensures c.leading_number-size.ensures.count c.split_at.ensures.back c.in_default.ensures

pub returns-clause-value : goal.returns-clause-value
returns-clause-value c =
    let found = leading_found c.args.text.now c.digits_of_word-digits.result.now c.split_at.result.1.now c.leading_number-size.result.1 c.leading_number-size.result.0
    c.digits_of_word-digits.ensures c.leading_number-size.ensures.count (omega (arith, c.if-count-eq0.false)) c.split_at.ensures.back
    c.in-Some.ensures.0 c.leading_number-size.ensures.value in
    number_text c.args.text.now c.in-Some.after.now c.number_command.result (c.number_command.ensures ∙ found.0) (past_number c.args.text.now c.split_at.result.1.now c.in-Some.after.now found.1 c.in-Some.ensures.0 c.in-Some.ensures.1)
