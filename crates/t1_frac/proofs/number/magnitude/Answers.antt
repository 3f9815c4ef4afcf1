use Rattle.std.proofs.Common.{◌-◌, ◌^◌, min, ap, ◌∙◌, arith}
use Rattle.t1_frac.specs.Numbers.{decimal_value}
use Rattle.t1_frac.proofs.NumberLaws.{whole_number}
use Rattle.t1_frac.proofs.number.magnitude.Goals as goal

pub returns : goal.returns
returns c =
    let whole = whole_number c.args.digits.now c.leading_number-value.result.1 c.leading_number-value.ensures.count (omega arith) in
    (whole.0, c.leading_number-value.ensures.value ∙ ap (λ l. min (decimal_value l) (2 ^ 64 - 1)) whole.1)
