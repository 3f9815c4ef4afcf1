use Rattle.std.proofs.Common.{◌≡◌, ◌++◌, ℕ, List, rules, take}
use Rattle.std.specs.Prelude.{codes}
use Rattle.std.specs.Fmt.{signed_decimal}
use Rattle.t1_afm.proofs.Digits.{four_put}
use Rattle.t1_afm.proofs.chars.put_sides.Goals as goal

pub returns-clause-front : goal.returns-clause-front
returns-clause-front c =
    let f0 : List ℕ = take c.args.place c.args.bytes.now in
    let f1 : List ℕ = take c.put_text-left.result c.put_text-left.new.bytes in
    let f2 : List ℕ = take c.put_number-left.result c.put_number-left.new.bytes in
    let f3 : List ℕ = take c.put_text-bottom.result c.put_text-bottom.new.bytes in
    let f4 : List ℕ = take c.put_number-bottom.result c.put_number-bottom.new.bytes in
    let f5 : List ℕ = take c.put_text-right.result c.put_text-right.new.bytes in
    let f6 : List ℕ = take c.put_number-right.result c.put_number-right.new.bytes in
    let f7 : List ℕ = take c.put_text-top.result c.put_text-top.new.bytes in
    let f8 : List ℕ = take c.put_number.result c.put_number.new.bytes in
    let left : take c.put_number-left.result c.put_number-left.new.bytes
    ≡ take c.put_text-left.result c.put_text-left.new.bytes ++ signed_decimal c.args.bbox.now.left = search rules in
    let bottom : take c.put_number-bottom.result c.put_number-bottom.new.bytes
    ≡ take c.put_text-bottom.result c.put_text-bottom.new.bytes ++ signed_decimal c.args.bbox.now.bottom = search rules in
    let right : take c.put_number-right.result c.put_number-right.new.bytes
    ≡ take c.put_text-right.result c.put_text-right.new.bytes ++ signed_decimal c.args.bbox.now.right = search rules in
    let top : take c.put_number.result c.put_number.new.bytes
    ≡ take c.put_text-top.result c.put_text-top.new.bytes ++ signed_decimal c.args.bbox.now.top = search rules in
    four_put f0 f1 f2 f3 f4 f5 f6 f7 f8 (codes " ") (signed_decimal c.args.bbox.now.left) (signed_decimal c.args.bbox.now.bottom) (signed_decimal c.args.bbox.now.right)
    (signed_decimal c.args.bbox.now.top) c.put_text-left.ensures.front left c.put_text-bottom.ensures.front bottom c.put_text-right.ensures.front right
    c.put_text-top.ensures.front top
