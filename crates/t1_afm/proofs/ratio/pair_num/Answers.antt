use Rattle.std.proofs.Common.{◌≡◌, ℤ, ◌≤◌, ◌+◌, ◌^◌, ◌+ℤ◌, ◌∙◌, arith}
use Rattle.std.specs.Int.RustNames.{unsigned_abs}
use mir.Syntax.{w128}
use mir.Val.{to_z, of_z}
use Rattle.t1_afm.proofs.Products.{IsMade, read_wide, wide_total}
use Rattle.t1_afm.proofs.ratio.pair_num.Goals as goal

made : (x y a b : ℤ) → x ≡ a → y ≡ b → unsigned_abs x ≤ 2 ^ 78 → unsigned_abs y ≤ 2 ^ 78
    → IsMade w128 (to_z w128 (of_z w128 x) +ℤ to_z w128 (of_z w128 y)) (a +ℤ b) (2 ^ 78 + 2 ^ 78)
made x y a b e f h k =
    wide_total _ _ a b (2 ^ 78) (2 ^ 78) (read_wide x (omega (arith, h)) ∙ e) (read_wide y (omega (arith, k)) ∙ f) (rw (← e) h) (rw (← f) k) (omega arith)

pub overflow_add-result : goal.overflow_add-result
overflow_add-result c =
    (made c.term-left.result c.term-right.result _ _ c.term-left.ensures.value c.term-right.ensures.value c.term-left.ensures.size c.term-right.ensures.size).fits

pub returns-clause-value : goal.returns-clause-value
returns-clause-value c =
    (made c.term-left.result c.term-right.result _ _ c.term-left.ensures.value c.term-right.ensures.value c.term-left.ensures.size c.term-right.ensures.size).same

pub returns-clause-size : goal.returns-clause-size
returns-clause-size c =
    (made c.term-left.result c.term-right.result _ _ c.term-left.ensures.value c.term-right.ensures.value c.term-left.ensures.size c.term-right.ensures.size).bound
