use Rattle.std.proofs.Common.{◌≡◌, ℤ, ap, ◌≤◌, ◌^◌, ◌∙◌, sym, subst, arith, pos, ◌*ℤ◌}
use Rattle.std.specs.Int.{int_min, int_max}
use Rattle.std.specs.Int.RustNames.{unsigned_abs}
use Rattle.t1_afm.specs.Bounds.{IsInRange, over_cube}
use Rattle.t1_afm.proofs.EndSums.{least_end, greatest_end, multiple_in_range, span_of_ends}
use Rattle.t1_afm.proofs.Longs.{IsPick, below_long, greatest_is_pick, least_is_pick, long, pick_long, read, read_small}
use Rattle.t1_afm.proofs.Wholes.{sum_in_size}
use Rattle.t1_afm.proofs.whole.WholeCubic.sums.Goals as goal

end_size : (f : ℤ → ℤ → ℤ) → IsPick f → (a b z : ℤ) → unsigned_abs a ≤ 2 ^ 20 → unsigned_abs b ≤ 2 ^ 20 → z ≡ f (read a) (read b) → unsigned_abs (read z) ≤ 2 ^ 20
end_size f picks a b z h k e =
    let picked = pick_long f picks a b z a b (2 ^ 20) (long a (2 ^ 20) h (omega arith)) (long b (2 ^ 20) k (omega arith)) (omega arith) e in
    rw picked.same (picked.bound)

pub numerator-requires : goal.numerator-requires
numerator-requires c =
    let p = c.args.self.now in
    end_size int_min least_is_pick p.start p.end c.min-low.result p.start_size p.end_size c.min-low.ensures.value

pub numerator-requires-then-max-high : goal.numerator-requires-then-max-high
numerator-requires-then-max-high c =
    let p = c.args.self.now in
    end_size int_max greatest_is_pick p.start p.end c.max-high.result p.start_size p.end_size c.max-high.ensures.value

pub returns-then-max-high : goal.returns-then-max-high
returns-then-max-high c =
    let p = c.args.self.now in
    let start = long p.start (2 ^ 20) p.start_size (omega arith) in
    let first = long p.first (2 ^ 20) p.first_size (omega arith) in
    let second = long p.second (2 ^ 20) p.second_size (omega arith) in
    let end = long p.end (2 ^ 20) p.end_size (omega arith) in
    let low = pick_long int_min least_is_pick _ _ c.min-low.result _ _ (2 ^ 20) start end (omega arith) c.min-low.ensures.value in
    let high = pick_long int_max greatest_is_pick _ _ c.max-high.result _ _ (2 ^ 20) start end (omega arith) c.max-high.ensures.value in
    let least = pick_long int_min least_is_pick _ _ c.min.result _ _ (2 ^ 20) first second (omega arith) c.min.ensures.value in
    let greatest = pick_long int_max greatest_is_pick _ _ c.max.result _ _ (2 ^ 20) first second (omega arith) c.max.ensures.value in
    let below = below_long _ _ _ _ _ _ low least c.if-low-min.true in
    let above = below_long _ _ _ _ _ _ greatest high c.if-max-high.true in
    let low_is = read_small c.numerator.result (omega (arith, c.numerator.ensures.size)) ∙ c.numerator.ensures.value ∙ ap (λ z. pos 262144 *ℤ z) low.same in
    let high_is = read_small c.numerator-then-max-high.result (omega (arith, c.numerator-then-max-high.ensures.size)) ∙ c.numerator-then-max-high.ensures.value
    ∙ ap (λ z. pos 262144 *ℤ z) high.same in
    let least_range = subst (λ x. IsInRange (over_cube x)) (sym low_is) (multiple_in_range (int_min p.start p.end) low.bound) in
    let greatest_range = subst (λ x. IsInRange (over_cube x)) (sym high_is) (multiple_in_range (int_max p.start p.end) high.bound) in
    record {
      least = low_is ∙ sym (least_end p.start p.first p.second p.end below);
      greatest = high_is ∙ sym (greatest_end p.start p.first p.second p.end above);
      least_range = least_range;
      greatest_range = greatest_range;
      span = span_of_ends p _ _ low_is high_is below above;
      least_size = sum_in_size _ least_range;
      greatest_size = sum_in_size _ greatest_range;
    }
