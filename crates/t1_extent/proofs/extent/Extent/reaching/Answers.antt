use Rattle.std.proofs.Common.{◌≡◌, refl}
use Rattle.t1_frac.specs.Fraction.{Fraction}
use Rattle.t1_extent.specs.Extremes.{Extremes}
use Rattle.t1_extent.proofs.extent.Extent.reaching.Goals as goal

same : (l b r t l' b' r' t' : Fraction) → l ≡ l' → b ≡ b' → r ≡ r' → t ≡ t'
    → ◌≡◌ {A = Extremes} (record { left = l; bottom = b; right = r; top = t }) (record { left = l'; bottom = b'; right = r'; top = t' })
same l b r t l' b' r' t' e f g h = rw (e, f, g, h) refl

pub returns-clause-value : goal.returns-clause-value
returns-clause-value c =
    same _ _ _ _ _ _ _ _ c.lesser.ensures.value c.lesser-2.ensures.value c.greater.ensures.value c.greater-2.ensures.value

pub returns-clause-fine : goal.returns-clause-fine
returns-clause-fine c = λ n h k. record {
  left = c.lesser.ensures.fine n h.left k.left;
  bottom = c.lesser-2.ensures.fine n h.bottom k.bottom;
  right = c.greater.ensures.fine n h.right k.right;
  top = c.greater-2.ensures.fine n h.top k.top;
}
