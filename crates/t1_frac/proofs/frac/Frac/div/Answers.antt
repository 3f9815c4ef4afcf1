use Rattle.std.proofs.Common.{◌≢◌, rules}
use Rattle.std.specs.Int.RustNames.{unsigned_abs}
use Rattle.t1_frac.proofs.Quotients.{quotient_reduced}
use Rattle.t1_frac.proofs.frac.Frac.div.Goals as goal

pub returns-then-other-eq1 : goal.returns-then-other-eq1
returns-then-other-eq1 c =
    let some : unsigned_abs c.args.other.now.num ≢ 0 = search rules in
    quotient_reduced _ _ _ _ _ some c.whole_quotient_terms-num.ensures.num_below c.whole_quotient_terms-num.ensures.quotient c.reduced.ensures

pub returns-then-is_short-2 : goal.returns-then-is_short-2
returns-then-is_short-2 c =
    let some : unsigned_abs c.args.other.now.num ≢ 0 = search rules in
    quotient_reduced _ _ _ _ _ some c.quotient_terms-num.ensures.num_below c.quotient_terms-num.ensures.quotient c.reduced-then-is_short-2.ensures
