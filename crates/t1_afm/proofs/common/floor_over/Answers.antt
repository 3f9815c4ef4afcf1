use Rattle.std.proofs.Common.{◌∙◌, ap, w64}
use Rattle.std.proofs.lemmas.Int.{to_z-of_z}
use Rattle.t1_frac.specs.Fraction.{floor_of}
use Rattle.t1_afm.specs.Bounds.{over_cube}
use Rattle.t1_afm.proofs.Denominators.{floor_read}
use Rattle.t1_afm.proofs.common.floor_over.Goals as goal

pub returns-clause-value : goal.returns-clause-value
returns-clause-value c =
    let is = c.floor.ensures.value ∙ ap (λ x. floor_of (over_cube x)) (to_z-of_z w64 c.args.sum c.ranges.sum) in
    floor_read c.floor.result c.div_euclid.result c.args.sum c.args.den is c.floor.ensures.size c.requires.above c.requires.fine c.div_euclid.ensures c.div_euclid.type_inv
