use Rattle.std.proofs.Common.{◌≡◌, ◌++◌, ap, ◌∙◌, arith}
use Rattle.t1_buckets.proofs.SharedLaws.{cut_buckets}
use Rattle.t1_buckets.proofs.edits.cut.Goals as goal

pub returns : goal.returns
returns g c =
    let old = c.args.buckets.now.items in
    let b = c.index.result.now in
    let f = c.in_ok-front-2.front in
    let k = c.in_ok-back.back in
    let whole : f.value ++ k.value ≡ b.value = ap (λ t. t ++ k.value) c.in_ok-front-2.ensures.ok ∙ ap (λ t. c.in_ok-front.front ++ t) c.in_ok-back.ensures.ok ∙ c.in_ok-front.ensures ∙ c.deref.ensures in
    cut_buckets c.args.index old c.reserve.new.self.items c.insert-room_was_reserved.new.self.items b f k _ c.reserve.ensures.items c.requires.within c.index.ensures whole
    (c.insert-room_was_reserved.ensures.succeeds (omega (arith, c.in_ok-reserve.ensures.ok))) c.insert-room_was_reserved.ensures.items
