-- Whole bounds of a cubic's four points are bounds of its values.
use Rattle.std.proofs.Common.{◌≡◌, ◌≤◌, ◌^◌, List, [], ◌∷◌, ◌++◌, map, ℤ, pos, ◌*ℤ◌, true, arith, ap, ◌∙◌, sym, subst}
use Rattle.std.specs.Prelude.{fold}
use Rattle.std.specs.Int.{int_min, int_max}
use Rattle.std.specs.Int.RustNames.{unsigned_abs}
use Rattle.std.specs.List.{range_with_len}
use Rattle.std.proofs.lemmas.Int.{ints, int_min_is, int_max_is}
use lib.Signed.{le_z}
use borrow.Author.Differences.{same_in}
use Rattle.t1_afm.specs.declared.whole.WholeCubic.{WholeCubic}
use Rattle.t1_afm.specs.Differences.{sum_at, picked_sum, least_sum, greatest_sum}
use Rattle.t1_afm.proofs.Between.{IsBelow, AllAbove, AllBelow}
use Rattle.t1_afm.proofs.Longs.{IsLong, IsPick, long, pick_long, read, read_small}
use Rattle.t1_afm.proofs.Wholes.{sum_first, sum_last}
use Rattle.t1_afm.proofs.EndSums.{sum_above, sum_below, above_range, below_range}

above_least : (m x : ℤ) (ys : List ℤ) → IsBelow m x → AllAbove m ys → IsBelow m (fold int_min x ys)
above_least m x [] h hs = h
above_least m x (y ∷ ys) h hs = above_least m (int_min x y) ys (record { below = omega (arith, int_min_is x y, h.below, hs.0.below) }) hs.1

below_greatest : (m x : ℤ) (ys : List ℤ) → IsBelow x m → AllBelow m ys → IsBelow (fold int_max x ys) m
below_greatest m x [] h hs = h
below_greatest m x (y ∷ ys) h hs = below_greatest m (int_max x y) ys (record { below = omega (arith, int_max_is x y, h.below, hs.0.below) }) hs.1

-- the least value isn't below what no point is below
pub least_above : (m a b c d : ℤ) → IsBelow m a → IsBelow m b → IsBelow m c → IsBelow m d → IsBelow (pos 262144 *ℤ m) (least_sum a b c d)
unfolding picked_sum
least_above m a b c d ha hb hc hd =
    above_least (pos 262144 *ℤ m) (sum_at a b c d 0) (map (sum_at a b c d) (range_with_len 1 64))
    (sum_above m a b c d 0 (omega arith) ha hb hc hd)
    (above_range (pos 262144 *ℤ m) (sum_at a b c d) 1 64 (λ k inside. sum_above m a b c d k (omega (arith, inside)) ha hb hc hd))

pub greatest_below : (m a b c d : ℤ) → IsBelow a m → IsBelow b m → IsBelow c m → IsBelow d m → IsBelow (greatest_sum a b c d) (pos 262144 *ℤ m)
unfolding picked_sum
greatest_below m a b c d ha hb hc hd =
    below_greatest (pos 262144 *ℤ m) (sum_at a b c d 0) (map (sum_at a b c d) (range_with_len 1 64))
    (sum_below m a b c d 0 (omega arith) ha hb hc hd)
    (below_range (pos 262144 *ℤ m) (sum_at a b c d) 1 64 (λ k inside. sum_below m a b c d k (omega (arith, inside)) ha hb hc hd))

-- the least and the greatest of four
abbrev pub least_of : ℤ → ℤ → ℤ → ℤ → ℤ
least_of a b c d = int_min (int_min a d) (int_min b c)

abbrev pub greatest_of : ℤ → ℤ → ℤ → ℤ → ℤ
greatest_of a b c d = int_max (int_max a d) (int_max b c)

-- extremes that hold the four points stay as they are
pub low_kept : (low a b c d : ℤ) → IsBelow low (pos 262144 *ℤ least_of a b c d) → int_min low (least_sum a b c d) ≡ low
low_kept low a b c d h =
    let m = least_of a b c d in
    let is = int_min_is (int_min a d) (int_min b c) in
    let ends = int_min_is a d in
    let inner = int_min_is b c in
    let k = least_above m a b c d (record { below = omega (arith, is, ends) }) (record { below = omega (arith, is, inner) }) (record { below = omega (arith, is, inner) }) (record { below = omega (arith, is, ends) }) in
    same_in _ _ (omega (arith, int_min_is low (least_sum a b c d), h.below, k.below))

pub high_kept : (high a b c d : ℤ) → IsBelow (pos 262144 *ℤ greatest_of a b c d) high → int_max high (greatest_sum a b c d) ≡ high
high_kept high a b c d h =
    let m = greatest_of a b c d in
    let is = int_max_is (int_max a d) (int_max b c) in
    let ends = int_max_is a d in
    let inner = int_max_is b c in
    let k = greatest_below m a b c d (record { below = omega (arith, is, ends) }) (record { below = omega (arith, is, inner) }) (record { below = omega (arith, is, inner) }) (record { below = omega (arith, is, ends) }) in
    same_in _ _ (omega (arith, int_max_is high (greatest_sum a b c d), h.below, k.below))

-- ---- the ends are values

below_first : (x : ℤ) (ys : List ℤ) → IsBelow (fold int_min x ys) x
below_first x [] = record { below = omega arith }
below_first x (y ∷ ys) = let h = below_first (int_min x y) ys in record { below = omega (arith, h.below, int_min_is x y) }

below_last : (x z : ℤ) (ys : List ℤ) → IsBelow (fold int_min x (ys ++ z ∷ [])) z
below_last x z [] = record { below = omega (arith, int_min_is x z) }
below_last x z (y ∷ ys) = below_last (int_min x y) z ys

above_first : (x : ℤ) (ys : List ℤ) → IsBelow x (fold int_max x ys)
above_first x [] = record { below = omega arith }
above_first x (y ∷ ys) = let h = above_first (int_max x y) ys in record { below = omega (arith, h.below, int_max_is x y) }

above_last : (x z : ℤ) (ys : List ℤ) → IsBelow z (fold int_max x (ys ++ z ∷ []))
above_last x z [] = record { below = omega (arith, int_max_is x z) }
above_last x z (y ∷ ys) = above_last (int_max x y) z ys

pub least_of_ends : (a b c d : ℤ) → int_min (int_min (pos 262144 *ℤ a) (pos 262144 *ℤ d)) (least_sum a b c d) ≡ least_sum a b c d
unfolding picked_sum
least_of_ends a b c d =
    let first : IsBelow (least_sum a b c d) (pos 262144 *ℤ a) = subst (IsBelow (least_sum a b c d)) (sum_first a b c d) (below_first (sum_at a b c d 0) (map (sum_at a b c d) (range_with_len 1 64))) in
    let last : IsBelow (least_sum a b c d) (pos 262144 *ℤ d) = subst (IsBelow (least_sum a b c d)) (sum_last a b c d) (below_last (sum_at a b c d 0) (sum_at a b c d 64) (map (sum_at a b c d) (range_with_len 1 63))) in
    same_in _ _ (omega (arith, int_min_is (int_min (pos 262144 *ℤ a) (pos 262144 *ℤ d)) (least_sum a b c d), int_min_is (pos 262144 *ℤ a) (pos 262144 *ℤ d), first.below, last.below))

pub greatest_of_ends : (a b c d : ℤ) → int_max (int_max (pos 262144 *ℤ a) (pos 262144 *ℤ d)) (greatest_sum a b c d) ≡ greatest_sum a b c d
unfolding picked_sum
greatest_of_ends a b c d =
    let first : IsBelow (pos 262144 *ℤ a) (greatest_sum a b c d) = subst (λ x. IsBelow x (greatest_sum a b c d)) (sum_first a b c d) (above_first (sum_at a b c d 0) (map (sum_at a b c d) (range_with_len 1 64))) in
    let last : IsBelow (pos 262144 *ℤ d) (greatest_sum a b c d) = subst (λ x. IsBelow x (greatest_sum a b c d)) (sum_last a b c d) (above_last (sum_at a b c d 0) (sum_at a b c d 64) (map (sum_at a b c d) (range_with_len 1 63))) in
    same_in _ _ (omega (arith, int_max_is (int_max (pos 262144 *ℤ a) (pos 262144 *ℤ d)) (greatest_sum a b c d), int_max_is (pos 262144 *ℤ a) (pos 262144 *ℤ d), first.below, last.below))

-- the four points, one after another, reach as far as the values
pub least_in_hull : (a b c d : ℤ) → int_min (least_sum a b c d) (pos 262144 *ℤ int_min (int_min (int_min a b) c) d) ≡ pos 262144 *ℤ int_min (int_min (int_min a b) c) d
least_in_hull a b c d =
    let m = int_min (int_min (int_min a b) c) d in
    let is = int_min_is (int_min (int_min a b) c) d in
    let three = int_min_is (int_min a b) c in
    let two = int_min_is a b in
    let k = least_above m a b c d (record { below = omega (arith, is, three, two) }) (record { below = omega (arith, is, three, two) }) (record { below = omega (arith, is, three) }) (record { below = omega (arith, is) }) in
    same_in _ _ (omega (arith, int_min_is (least_sum a b c d) (pos 262144 *ℤ m), k.below))

pub greatest_in_hull : (a b c d : ℤ) → int_max (greatest_sum a b c d) (pos 262144 *ℤ int_max (int_max (int_max a b) c) d) ≡ pos 262144 *ℤ int_max (int_max (int_max a b) c) d
greatest_in_hull a b c d =
    let m = int_max (int_max (int_max a b) c) d in
    let is = int_max_is (int_max (int_max a b) c) d in
    let three = int_max_is (int_max a b) c in
    let two = int_max_is a b in
    let k = greatest_below m a b c d (record { below = omega (arith, is, three, two) }) (record { below = omega (arith, is, three, two) }) (record { below = omega (arith, is, three) }) (record { below = omega (arith, is) }) in
    same_in _ _ (omega (arith, int_max_is (greatest_sum a b c d) (pos 262144 *ℤ m), k.below))

-- ---- read from 64 bits

-- of the four points
pub four_long : (pick : ℤ → ℤ → ℤ) → IsPick pick → (p : WholeCubic) (x y z : ℤ)
    → x ≡ pick (read p.start) (read p.end) → y ≡ pick (read p.first) (read p.second) → z ≡ pick (read x) (read y)
    → IsLong z (pick (pick p.start p.end) (pick p.first p.second)) (2 ^ 20)
four_long pick picks p x y z e f g =
    let start = long p.start (2 ^ 20) p.start_size (omega arith) in
    let first = long p.first (2 ^ 20) p.first_size (omega arith) in
    let second = long p.second (2 ^ 20) p.second_size (omega arith) in
    let end = long p.end (2 ^ 20) p.end_size (omega arith) in
    let ends = pick_long pick picks _ _ x _ _ (2 ^ 20) start end (omega arith) e in
    let inner = pick_long pick picks _ _ y _ _ (2 ^ 20) first second (omega arith) f in
    pick_long pick picks x y z _ _ (2 ^ 20) ends inner (omega arith) g

pub below_read : (x y : ℤ) → unsigned_abs x ≤ 2 ^ 38 → unsigned_abs y ≤ 2 ^ 38 → le_z (read x) (read y) ≡ true → IsBelow x y
below_read x y h k t =
    let u : le_z x y ≡ true = rw (read_small x (omega (arith, h)), read_small y (omega (arith, k))) at t in
    record { below = omega (arith, ints, u) }

-- the numerator of the least of the four points isn't below the extremes so far
pub low_held : (low n m a b c d : ℤ) → unsigned_abs low ≤ 2 ^ 38 → unsigned_abs n ≤ 2 ^ 38 → n ≡ pos 262144 *ℤ m → m ≡ least_of a b c d
    → le_z (read low) (read n) ≡ true → low ≡ int_min low (least_sum a b c d)
low_held low n m a b c d h k e f t =
    sym (low_kept low a b c d (subst (IsBelow low) (e ∙ ap (λ x. pos 262144 *ℤ x) f) (below_read low n h k t)))

pub high_held : (high n m a b c d : ℤ) → unsigned_abs high ≤ 2 ^ 38 → unsigned_abs n ≤ 2 ^ 38 → n ≡ pos 262144 *ℤ m → m ≡ greatest_of a b c d
    → le_z (read n) (read high) ≡ true → high ≡ int_max high (greatest_sum a b c d)
high_held high n m a b c d h k e f t =
    sym (high_kept high a b c d (subst (λ x. IsBelow x high) (e ∙ ap (λ x. pos 262144 *ℤ x) f) (below_read n high k h t)))
