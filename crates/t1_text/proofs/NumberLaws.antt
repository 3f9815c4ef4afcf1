-- Decimal digits, printed and read.
use Rattle.std.proofs.Common.{◌≡◌, ℕ, suc, true, ◌&&◌, ◌+◌, ◌*◌, ◌-◌, ◌/◌, ◌%◌, ◌^◌, ◌<◌, ◌≤◌, nat_le, nat_lt, pos, neg_ℤ, min, Some, List, [], ◌∷◌, ◌++◌, length, take, take_all, fold, refl, ◌∙◌, ap, arith, length-append}
use Rattle.std.specs.Char.{is_ascii_digit}
use Rattle.std.specs.List.{list_all, prefix_len}
use Rattle.std.specs.Fmt.{decimal}
use Rattle.std.proofs.Math.Nat.{mul-le-mul_right, pow-le-pow_right}
use Rattle.std.proofs.lemmas.Bool.{and_from, and_parts, le-leb, leb-true, lt-ltb, ne_eqb}
use Rattle.std.proofs.lemmas.Fmt.{decimal_by_steps}
use Rattle.std.proofs.lemmas.List.Folds.{list_all-append}
use Rattle.std.proofs.lemmas.List.Sums.{fold-append}
use Rattle.t1_frac.specs.Numbers.{decimal_value, is_number_word, number_written}
use Rattle.t1_text.specs.Names.{decimal_of, is_count}

-- the digits are those of the number
abbrev pub Spells : ℕ → List ℕ → Type 0
Spells n ds = (list_all is_ascii_digit ds ≡ true) × (decimal_value ds ≡ n) × (1 ≤ length ds)

digit_of : (n : ℕ) → n < 10 → is_ascii_digit (48 + n) ≡ true
digit_of n h = and_from _ _ (le-leb 48 (48 + n) (omega arith)) (le-leb (48 + n) 57 (omega arith))

spells_one : (n : ℕ) → n < 10 → Spells n ((48 + n) ∷ [])
spells_one n h = (and_from (is_ascii_digit (48 + n)) true (digit_of n h) refl, omega arith, omega arith)

spells_more : (n : ℕ) (ds : List ℕ) → 10 ≤ n → Spells (n / 10) ds → Spells n (ds ++ (48 + n % 10) ∷ [])
spells_more n ds h before =
    let last = 48 + n % 10 in
    let digit = digit_of (n % 10) (omega arith) in (
      list_all-append is_ascii_digit ds (last ∷ []) ∙ and_from _ _ before.0 (and_from (is_ascii_digit last) true digit refl),
      fold-append (λ m d. 10 * m + (d - 48)) 0 ds (last ∷ []) ∙ omega (arith, before.1),
      omega (arith, before.2, length-append ds (last ∷ [])),
    )

pub decimal_spells : (n : ℕ) → n < 2 ^ 64 → Spells n (decimal n)
decimal_spells n h = decimal_by_steps Spells spells_one spells_more n h

pub spelled : (ds : List ℕ) (n : ℕ) → Spells n ds → decimal_of ds ≡ Some n
spelled [] n h = absurd (omega (arith, h.2))
spelled (d ∷ ds) n h = rw h.0 (ap Some h.1)

-- digits are a number word, and so are digits after a minus
pub digits_word : (ds : List ℕ) (n : ℕ) → Spells n ds → (is_number_word ds ≡ true) × (number_written ds ≡ pos n)
unfolding is_number_word
digits_word [] n s = absurd (omega (arith, s.2))
digits_word (d ∷ ds) n s =
    let low = leb-true 48 d (and_parts _ _ (and_parts (is_ascii_digit d) (list_all is_ascii_digit ds) s.0).0).0 in
    rw (ne_eqb d 45 (omega (arith, low))) (and_from (nat_lt 0 (length (d ∷ ds))) (list_all is_ascii_digit (d ∷ ds)) (lt-ltb 0 (length (d ∷ ds)) s.2) s.0, ap pos s.1)

pub minus_word : (ds : List ℕ) (n : ℕ) → Spells n ds → (is_number_word (45 ∷ ds) ≡ true) × (number_written (45 ∷ ds) ≡ neg_ℤ (pos n))
unfolding is_number_word
minus_word ds n s =
    (and_from (nat_lt 0 (length ds)) (list_all is_ascii_digit ds) (lt-ltb 0 (length ds) s.2) s.0, ap (λ m. neg_ℤ (pos m)) s.1)

-- what a count is
pub count_parts : (ds : List ℕ) → is_count ds ≡ true → (1 ≤ length ds) × (length ds ≤ 9) × (list_all is_ascii_digit ds ≡ true)
count_parts ds h =
    let parts = and_parts (nat_le 1 (length ds) && nat_le (length ds) 9) (list_all is_ascii_digit ds) h in
    let sizes = and_parts (nat_le 1 (length ds)) (nat_le (length ds) 9) parts.0 in
    (leb-true 1 (length ds) sizes.0, leb-true (length ds) 9 sizes.1, parts.1)

power_more : (k : ℕ) → 10 ^ suc k ≡ 10 * 10 ^ k
power_more k = omega arith

-- the value of digits after a number
value_from : (n : ℕ) (ds : List ℕ) → list_all is_ascii_digit ds ≡ true → fold (λ m d. 10 * m + (d - 48)) n ds < (n + 1) * 10 ^ length ds
value_from n [] h = omega arith
value_from n (d ∷ ds) h =
    let parts = and_parts (is_ascii_digit d) (list_all is_ascii_digit ds) h in
    let digit = and_parts (nat_le 48 d) (nat_le d 57) parts.0 in
    let high = leb-true d 57 digit.1 in
    let step : 10 * n + (d - 48) + 1 ≤ 10 * (n + 1) = omega (arith, high) in
    let more = value_from (10 * n + (d - 48)) ds parts.1 in
    let scaled = mul-le-mul_right (10 ^ length ds) step in
    let size : 10 ^ length (d ∷ ds) ≡ 10 * 10 ^ length ds = power_more (length ds) in
    value_step n (10 * n + (d - 48)) (10 ^ length ds) (10 ^ length (d ∷ ds)) _ size more scaled
  where
    value_step : (n m p q v : ℕ) → q ≡ 10 * p → v < (m + 1) * p → (m + 1) * p ≤ 10 * (n + 1) * p → v < (n + 1) * q
    value_step n m p q v e a b = rw e (omega (arith, a, b))

-- a count has a value below 1,000,000,000
pub count_small : (ds : List ℕ) → is_count ds ≡ true → decimal_value ds < 10 ^ 9
count_small ds h =
    let c = count_parts ds h in
    let value = value_from 0 ds c.2 in
    let size = pow-le-pow_right (le_by 10) c.1 in
    omega (arith, value, size)
  where
    le_by : (n : ℕ) → 0 < 10
    le_by n = omega arith

-- the number of a count, as the code reads it
pub count_read : (ds : List ℕ) (n v : ℕ) → is_count ds ≡ true → n ≡ prefix_len is_ascii_digit ds → v ≡ min (decimal_value (take n ds)) (2 ^ 64 - 1) → v ≡ decimal_value ds
count_read ds n v h e is =
    let all = all_in_front ds (count_parts ds h).2 in
    let same : take n ds ≡ ds = take_all n ds (omega (arith, e, all)) in
    let small = count_small ds h in
    is ∙ ap (λ l. min (decimal_value l) (2 ^ 64 - 1)) same ∙ omega (arith, small)
  where
    all_in_front : (l : List ℕ) → list_all is_ascii_digit l ≡ true → prefix_len is_ascii_digit l ≡ length l
    all_in_front [] k = refl
    all_in_front (c ∷ l) k = let parts = and_parts (is_ascii_digit c) (list_all is_ascii_digit l) k in rw parts.0 (omega (arith, all_in_front l parts.1))
