use Rattle.t1_extent.proofs.Exacts.{distance_den, terms_are, shifted_from, shifted_value, shifted_fine}
use Rattle.t1_extent.proofs.exact.Exact.shifted.Goals as goal

pub returns : goal.returns
returns c =
    let den = distance_den c.unsigned_abs.result c.args.by.now.den c.den.result c.unsigned_abs.ensures.value c.den.ensures.value c.den.ensures.fine in
    let terms = terms_are c.moved_num-num.result _ c.args.self.now.den c.unsigned_abs.result c.args.by.now.den c.moved_num-num.type_inv c.moved_num-num.ensures den in
    record {
      outcome = shifted_from c.limited.result c.args.self.now c.args.by.now _ c.args.self.now.above c.den.ensures.above terms c.limited.ensures;
      value = shifted_value c.limited.result c.args.self.now c.args.by.now _ c.args.self.now.above c.den.ensures.above terms c.limited.ensures;
      fine = shifted_fine c.limited.result c.args.self.now c.args.by.now _ terms c.limited.ensures;
    }
