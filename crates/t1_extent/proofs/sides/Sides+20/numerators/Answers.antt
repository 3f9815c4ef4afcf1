use Rattle.std.proofs.Common.{◌≡◌, ℤ, ◌≤◌, ◌^◌, ◌*ℤ◌, pos, ap, ◌∙◌, arith}
use Rattle.std.specs.Int.RustNames.{unsigned_abs}
use Rattle.t1_afm.proofs.Longs.{read, read_small}
use Rattle.t1_extent.proofs.Squeezing.{same_sides}
use Rattle.t1_extent.proofs.sides.Sides+20.numerators.Goals as goal

size : (n : ℤ) → unsigned_abs n ≤ 2 ^ 20 → unsigned_abs (read n) ≤ 2 ^ 20
size n h = rw (read_small n (omega (arith, h))) h

same : (x n : ℤ) → x ≡ pos 262144 *ℤ read n → unsigned_abs x ≤ 2 ^ 38 → unsigned_abs n ≤ 2 ^ 20 → read x ≡ pos 262144 *ℤ n
same x n e h k = read_small x (omega (arith, h)) ∙ e ∙ ap (λ z. pos 262144 *ℤ z) (read_small n (omega (arith, k)))

pub numerator-requires : goal.numerator-requires
numerator-requires c = let s = c.args.self.now in size s.left s.left_size

pub numerator-requires-2 : goal.numerator-requires-2
numerator-requires-2 c = let s = c.args.self.now in size s.bottom s.bottom_size

pub numerator-requires-3 : goal.numerator-requires-3
numerator-requires-3 c = let s = c.args.self.now in size s.right s.right_size

pub numerator-requires-4 : goal.numerator-requires-4
numerator-requires-4 c = let s = c.args.self.now in size s.top s.top_size

pub returns : goal.returns
returns c =
    let s = c.args.self.now in
    same_sides _ _ _ _ s (same c.numerator.result s.left c.numerator.ensures.value c.numerator.ensures.size s.left_size)
    (same c.numerator-2.result s.bottom c.numerator-2.ensures.value c.numerator-2.ensures.size s.bottom_size)
    (same c.numerator-3.result s.right c.numerator-3.ensures.value c.numerator-3.ensures.size s.right_size)
    (same c.numerator-4.result s.top c.numerator-4.ensures.value c.numerator-4.ensures.size s.top_size)
