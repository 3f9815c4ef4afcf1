-- A quotient from its numerator and denominator.
use Rattle.std.proofs.Common.{◌≡◌, ◌≢◌, ℕ, ◌<◌, ◌^◌, ℤ, if◌then◌else◌, Result, Err, sym, ◌∙◌, ap, to_z, of_z, w64, ne_eqb}
use Rattle.std.specs.Int.RustNames.{unsigned_abs}
use Rattle.t1_frac.specs.Fraction.{Fraction, lowest, over}
use Rattle.t1_frac.specs.Limits.{within, quotient}
use Rattle.t1_frac.specs.declared.fault.Code.{Code}
use Rattle.t1_frac.specs.declared.fault.Code.TheVariants.{F37, F38}
use Rattle.t1_frac.proofs.Coordinates.{read_again}

-- by a number that isn't 0, brought to lowest terms
pub quotient_reduced : (a b : Fraction) (r : Result Fraction Code) (n : ℤ) (d : ℕ) → unsigned_abs b.num ≢ 0 → unsigned_abs n < 2 ^ 63 → ◌≡◌ {A = Fraction} (record { num = n; den = d }) (over a b) → r ≡ within F37 (2 ^ 31) (lowest (record { num = to_z w64 (of_z w64 n); den = d })) → r ≡ quotient a b
unfolding quotient
quotient_reduced a b r n d some below is reduced =
    reduced ∙ ap (λ k. within F37 (2 ^ 31) (lowest (record { num = k; den = d }))) (read_again n below)
    ∙ ap (λ f. within F37 (2 ^ 31) (lowest f)) is
    ∙ sym (ap (λ t. if t then Err F38 else within F37 (2 ^ 31) (lowest (over a b))) (ne_eqb (unsigned_abs b.num) 0 some))
