use Rattle.std.proofs.Common.{◌≡◌, ℤ, pos, neg_ℤ, ◌-ℤ◌, ◌≤◌, ◌^◌, ◌∙◌, arith, ap, sym}
use Rattle.std.specs.Int.RustNames.{unsigned_abs, FitsSigned}
use Rattle.std.proofs.lemmas.Int.{ints}
use mir.Syntax.{w64, w128}
use mir.Val.{to_z, of_z}
use Rattle.t1_afm.proofs.Longs.{read}
use Rattle.t1_frac.specs.Fraction.{floor_of}
use Rattle.t1_extent.specs.Exacts.{kept_number}
use Rattle.t1_extent.proofs.Exacts.{ceiling_value}
use Rattle.t1_extent.proofs.exact.Exact.ceil.Goals as goal

fits : (z : ℤ) → unsigned_abs z ≤ 2 ^ 61 → FitsSigned w64 (to_z w128 (of_z w128 z))
fits z h = omega (arith, ints, h)

turned_fits : (z : ℤ) → unsigned_abs z ≤ 2 ^ 61 → FitsSigned w64 (pos 0 -ℤ read (to_z w128 (of_z w128 z)))
turned_fits z h = omega (arith, ints, h)

turned : (z : ℤ) → unsigned_abs z ≤ 2 ^ 61 → read (pos 0 -ℤ read (to_z w128 (of_z w128 z))) ≡ neg_ℤ z
turned z h = omega (arith, ints, h)

pub overflow_cast-result : goal.overflow_cast-result
overflow_cast-result c = fits c.floor_wide.result c.floor_wide.ensures.size

pub overflow_sub-result : goal.overflow_sub-result
overflow_sub-result c = turned_fits c.floor_wide.result c.floor_wide.ensures.size

pub returns : goal.returns
returns c =
    let a = c.args.self.now in
    turned c.floor_wide.result c.floor_wide.ensures.size ∙ ap neg_ℤ (c.floor_wide.ensures.value ∙ ap floor_of c.negated-negated.ensures)
    ∙ sym (ceiling_value (kept_number a) a.above)
