use Rattle.std.proofs.Common.{◌≡◌, ℤ, pos, neg_ℤ, ◌-ℤ◌, ◌≤◌, ◌^◌, ◌∙◌, FitsSigned, to_z, of_z, ap, arith, subst, sym}
use Rattle.std.specs.Int.RustNames.{unsigned_abs}
use Rattle.std.proofs.lemmas.Int.{ints}
use mir.Syntax.{w32, w64}
use Rattle.t1_frac.specs.Fraction.{floor_of}
use Rattle.t1_afm.specs.Bounds.{IsInRange, over_cube}
use Rattle.t1_afm.proofs.Convex.{negated_in_range}
use Rattle.t1_afm.proofs.Longs.{read}
use Rattle.t1_afm.proofs.whole.ceil.Goals as goal

turned_fits : (n : ℤ) → unsigned_abs n ≤ 2 ^ 60 → FitsSigned w64 (pos 0 -ℤ read n)
turned_fits n h = omega (arith, ints, h)

turned : (n : ℤ) → unsigned_abs n ≤ 2 ^ 60 → read (pos 0 -ℤ read n) ≡ neg_ℤ n
turned n h = omega (arith, ints, h)

back_fits : (n : ℤ) → unsigned_abs n ≤ 2 ^ 20 → FitsSigned w32 (pos 0 -ℤ to_z w32 (of_z w32 n))
back_fits n h = omega (arith, ints, h)

back : (n : ℤ) → unsigned_abs n ≤ 2 ^ 20 → to_z w32 (of_z w32 (pos 0 -ℤ to_z w32 (of_z w32 n))) ≡ neg_ℤ n
back n h = omega (arith, ints, h)

pub overflow_sub-sum : goal.overflow_sub-sum
overflow_sub-sum c = turned_fits c.args.sum c.requires.size

pub floor-requires : goal.floor-requires
floor-requires c =
    subst (λ x. IsInRange (over_cube x)) (sym (turned c.args.sum c.requires.size)) (negated_in_range (over_cube c.args.sum) c.requires.range)

pub overflow_sub-result : goal.overflow_sub-result
overflow_sub-result c = back_fits c.floor.result c.floor.ensures.size

pub returns : goal.returns
returns c =
    back c.floor.result c.floor.ensures.size ∙ ap neg_ℤ (c.floor.ensures.value ∙ ap (λ x. floor_of (over_cube x)) (turned c.args.sum c.requires.size))
