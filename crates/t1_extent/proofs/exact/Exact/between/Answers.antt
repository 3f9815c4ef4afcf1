use Rattle.std.proofs.Common.{arith}
use Rattle.t1_extent.proofs.Exacts.{distance_den, between_is, difference_is}
use Rattle.t1_extent.proofs.exact.Exact.between.Goals as goal

pub overflow_mul-result : goal.overflow_mul-result
overflow_mul-result c =
    let from = c.args.from.now in
    let to = c.args.to.now in
    (difference_is c.num.result c.num-2.result c.den.result to from c.requires.from c.requires.to c.requires.whole c.num.ensures c.num-2.ensures c.den.ensures.value).product_fits

pub overflow_sub-result : goal.overflow_sub-result
overflow_sub-result c =
    let from = c.args.from.now in
    let to = c.args.to.now in
    (difference_is c.num.result c.num-2.result c.den.result to from c.requires.from c.requires.to c.requires.whole c.num.ensures c.num-2.ensures c.den.ensures.value).fits

pub invariant_of-result : goal.invariant_of-result
invariant_of-result c =
    let from = c.args.from.now in
    let to = c.args.to.now in
    let den = distance_den c.unsigned_abs.result to.den c.den-2.result c.unsigned_abs.ensures.value c.den-2.ensures.value c.den-2.ensures.fine in
    let h = difference_is c.num.result c.num-2.result c.den.result to from c.requires.from c.requires.to c.requires.whole c.num.ensures c.num-2.ensures c.den.ensures.value in
    record { above = rw den c.den.ensures.above; fine = rw den (omega (arith, c.den.ensures.fine)); size = h.bound }

pub returns-clause-value : goal.returns-clause-value
returns-clause-value c =
    let from = c.args.from.now in
    let to = c.args.to.now in
    let den = distance_den c.unsigned_abs.result to.den c.den-2.result c.unsigned_abs.ensures.value c.den-2.ensures.value c.den-2.ensures.fine in
    let h = difference_is c.num.result c.num-2.result c.den.result to from c.requires.from c.requires.to c.requires.whole c.num.ensures c.num-2.ensures c.den.ensures.value in
    between_is c.num.result c.num-2.result c.den.result c.unsigned_abs.result to from h c.requires.whole den

pub returns-clause-fine : goal.returns-clause-fine
returns-clause-fine c =
    let den = distance_den c.unsigned_abs.result c.args.to.now.den c.den-2.result c.unsigned_abs.ensures.value c.den-2.ensures.value c.den-2.ensures.fine in
    rw den c.den.ensures.fine
