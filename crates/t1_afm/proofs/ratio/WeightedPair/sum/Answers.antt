use Rattle.std.proofs.Common.{◌≡◌, ℕ, ℤ, ◌≤◌, ◌*◌, ◌^◌, ◌∙◌, Fits, arith, refl}
use Rattle.std.proofs.Math.Nat.{mul-le-mul, mul-le-mul_left}
use mir.Syntax.{w128}
use Rattle.t1_frac.specs.Fraction.{Fraction}
use Rattle.t1_afm.proofs.Products.{read_wide}
use Rattle.t1_afm.proofs.ratio.WeightedPair.sum.Goals as goal

product : (a b : ℕ) → a ≤ 2 ^ 40 → b ≤ 2 ^ 40 → a * b ≤ 2 ^ 80
product a b h k = mul-le-mul h k

over_cube : (a b : ℕ) → a ≤ 2 ^ 40 → b ≤ 2 ^ 40 → 262144 * (a * b) ≤ 2 ^ 98
over_cube a b h k = mul-le-mul_left 262144 (product a b h k)

fits : (n : ℕ) → n ≤ 2 ^ 98 → Fits w128 n
fits n h = omega (arith, h)

same : (n m : ℤ) (den : ℕ) → n ≡ m → ◌≡◌ {A = Fraction} (record { num = n; den = den }) (record { num = m; den = den })
same n m den e = rw e refl

pub overflow_mul-result : goal.overflow_mul-result
overflow_mul-result c =
    let a = c.args.self.now in
    let b = c.args.other.now in
    fits (a.den * b.den) (omega (arith, product a.den b.den a.den_size b.den_size))

pub overflow_mul-result-2 : goal.overflow_mul-result-2
overflow_mul-result-2 c =
    let a = c.args.self.now in
    let b = c.args.other.now in
    fits (262144 * (a.den * b.den)) (over_cube a.den b.den a.den_size b.den_size)

pub invariant_of-result : goal.invariant_of-result
invariant_of-result c =
    let a = c.args.self.now in
    let b = c.args.other.now in
    record { num_size = rw (read_wide c.sum_num.result c.sum_num.ensures.size) c.sum_num.ensures.size; den_size = over_cube a.den b.den a.den_size b.den_size }

pub returns : goal.returns
returns c = same _ _ _ (read_wide c.sum_num.result c.sum_num.ensures.size ∙ c.sum_num.ensures.value)
