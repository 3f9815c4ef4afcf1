use Rattle.std.proofs.Common.{◌≡◌, ◌++◌, ap, ◌∙◌, arith}
use Rattle.t1_buckets.proofs.SharedLaws.{cut_buckets, some_at}
use Rattle.t1_parts.proofs.blocks.cut.Goals as goal

pub returns : goal.returns
returns c =
    let old = c.args.blocks.now.items in
    let b = c.index-block.result.now in
    let f = c.in_ok-front-2.front in
    let k = c.in_ok-back.back in
    let halves = some_at (λ h. h.0 ++ h.1 ≡ c.deref-2.result.now) c.in_ok-front.field-0 (c.in-Some.front, c.in-Some.back) c.in-Some.is c.in_ok-front.ensures in
    let whole : f.value ++ k.value ≡ b.value = ap (λ t. t ++ k.value) c.in_ok-front-2.ensures.ok ∙ ap (λ t. c.in-Some.front ++ t) c.in_ok-back.ensures.ok ∙ halves ∙ c.deref-2.ensures in
    cut_buckets c.args.index old c.reserve.new.self.items c.insert-room_was_reserved.new.self.items b f k _ c.reserve.ensures.items c.requires c.index-block.ensures whole
    (c.insert-room_was_reserved.ensures.succeeds (omega (arith, c.in_ok-reserve.ensures.ok))) c.insert-room_was_reserved.ensures.items
