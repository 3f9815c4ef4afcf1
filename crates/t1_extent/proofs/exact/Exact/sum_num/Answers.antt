use Rattle.std.proofs.Common.{◌≡◌, ℤ, ◌≤◌, ◌+◌, ◌^◌, ◌+ℤ◌, ◌∙◌, arith, refl}
use Rattle.std.specs.Int.RustNames.{unsigned_abs}
use mir.Syntax.{w128}
use mir.Val.{to_z, of_z}
use Rattle.t1_afm.proofs.Products.{IsMade, read_wide, wide_total}
use Rattle.t1_extent.proofs.Exacts.{left_term}
use Rattle.t1_extent.proofs.exact.Exact.sum_num.Goals as goal

made : (x y a b : ℤ) → x ≡ a → y ≡ b → unsigned_abs x ≤ 2 ^ 104 → unsigned_abs y ≤ 2 ^ 104
    → IsMade w128 (to_z w128 (of_z w128 x) +ℤ to_z w128 (of_z w128 y)) (a +ℤ b) (2 ^ 104 + 2 ^ 104)
made x y a b e f h k =
    wide_total _ _ a b (2 ^ 104) (2 ^ 104) (read_wide x (omega (arith, h)) ∙ e) (read_wide y (omega (arith, k)) ∙ f) (rw (← e) h) (rw (← f) k) (omega arith)

pub overflow_add-result : goal.overflow_add-result
overflow_add-result c =
    (made c.scaled-left.result c.scaled-right.result c.scaled-left.result c.scaled-right.result refl refl c.scaled-left.ensures.size c.scaled-right.ensures.size).fits

pub returns : goal.returns
returns c =
    let a = c.args.self.now in
    let b = c.args.other.now in
    let left = left_term c.scaled-left.result a.num b.den b.den c.scaled-left.ensures.value a.size refl in
    let right = left_term c.scaled-right.result b.num a.den a.den c.scaled-right.ensures.value b.size refl in
    (made c.scaled-left.result c.scaled-right.result _ _ left right c.scaled-left.ensures.size c.scaled-right.ensures.size).same
