use Rattle.std.proofs.Common.{◌≡◌, ◌-◌, ◌^◌, Ok, min, take, ◌∙◌, arith}
use Rattle.t1_frac.specs.Numbers.{decimal_value}
use Rattle.t1_code.proofs.Scanning.{leading_found, number_text, past_number}
use Rattle.t1_code.proofs.words.first_short_number.Goals as goal

pub returns-clause-value : goal.returns-clause-value
returns-clause-value c =
    let digits = c.digits_of_word-digits.result.now in
    let size : c.in-Some.size ≡ min (decimal_value (take c.in-Some.count digits)) (2 ^ 64 - 1) = omega (arith, c.in-Some.ensures.value, c.in-Some.ensures.short) in
    let found = leading_found c.args.text.now digits c.split_at.result.1.now c.in-Some.count c.in-Some.size
    c.digits_of_word-digits.ensures c.in-Some.ensures.count (omega (arith, c.if-count-eq0.false)) c.split_at.ensures.back
    c.in-Some-past_end.ensures.0 size in
    number_text c.args.text.now c.in-Some-past_end.after.now (Ok c.short_number_command-command.result) (c.short_number_command-command.ensures ∙ found.0) (past_number c.args.text.now c.split_at.result.1.now c.in-Some-past_end.after.now found.1 c.in-Some-past_end.ensures.0 c.in-Some-past_end.ensures.1)
