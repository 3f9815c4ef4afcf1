use Rattle.std.proofs.Common.{refl}
use Rattle.t1_extent.specs.Exacts.{kept_number}
use Rattle.t1_extent.proofs.Exacts.{terms_are, shifted_from, shifted_value}
use Rattle.t1_extent.proofs.exact.Exact.displaced.Goals as goal

pub returns-clause-outcome : goal.returns-clause-outcome
returns-clause-outcome c =
    let terms = terms_are c.sum_num-num.result _ c.args.self.now.den c.args.by.now.den c.args.by.now.den c.sum_num-num.type_inv c.sum_num-num.ensures refl in
    shifted_from c.limited.result c.args.self.now (kept_number c.args.by.now) _ c.args.self.now.above c.args.by.now.above terms c.limited.ensures

pub returns-clause-value : goal.returns-clause-value
returns-clause-value c =
    let terms = terms_are c.sum_num-num.result _ c.args.self.now.den c.args.by.now.den c.args.by.now.den c.sum_num-num.type_inv c.sum_num-num.ensures refl in
    shifted_value c.limited.result c.args.self.now (kept_number c.args.by.now) _ c.args.self.now.above c.args.by.now.above terms c.limited.ensures
