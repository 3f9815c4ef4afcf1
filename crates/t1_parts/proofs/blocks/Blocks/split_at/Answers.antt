use Rattle.std.proofs.Common.{ap, length, take, drop, ◌++◌, ◌∙◌, arith}
use Rattle.std.proofs.lemmas.List.{length-drop, length-take-le}
use Rattle.t1_text.specs.Lines.{lines}
use Rattle.t1_buckets.specs.Buckets.{shared_joined}
use Rattle.t1_parts.specs.Items.{items_in, line_items}
use Rattle.t1_parts.proofs.BlockLaws.{offset_in, split_front, split_back}
use Rattle.t1_parts.proofs.blocks.Blocks.split_at.Goals as goal

pub split_at-cut-requires : goal.split_at-cut-requires
split_at-cut-requires c =
    let value = ap length c.deref.ensures in
    omega (arith, value, offset_in c.args.at c.as_slice-blocks.result.now c.place_of-index.result c.place_of-index.ensures c.index-blocks-index.result c.index-blocks-index.is)

pub items_through-requires-clause-len : goal.items_through-requires-clause-len
items_through-requires-clause-len c =
    let bs = c.as_slice-blocks.result.now in
    let p = c.place_of-index.result in
    let own = items_in c.split_at-cut.result.before.now ++ line_items (lines c.split_at-cut.result.front.now) in
    let front = split_front c.args.at bs p c.place_of-index.ensures c.index-blocks-index.result c.index-blocks-index.is own (c.split_at-cut.ensures.before ∙ ap (take p.1) c.deref.ensures) in
    let size = ap length (ap (λ b. shared_joined b ++ own) c.split_at-2.ensures.front ∙ front) in
    let all = ap length (ap shared_joined c.as_slice-blocks.ensures.value ∙ c.self.view_is) in
    let taken = length-take-le c.args.at (shared_joined bs) (omega (arith, all, c.requires.len, c.requires.within)) in
    omega (arith, size, taken)

pub items_from-requires-clause-len : goal.items_from-requires-clause-len
items_from-requires-clause-len c =
    let bs = c.as_slice-blocks.result.now in
    let p = c.place_of-index.result in
    let front = line_items (lines c.split_at-cut.result.back.now) in
    let back = items_in c.split_at-cut.result.after.now in
    let rest = split_back c.args.at bs p c.place_of-index.ensures c.index-blocks-index.result c.index-blocks-index.is front back (c.split_at-cut.ensures.after ∙ ap (drop p.1) c.deref.ensures) in
    let size = ap length (ap (λ b. front ++ (back ++ shared_joined b)) c.split_at-3.ensures.back ∙ rest) in
    let all = ap length (ap shared_joined c.as_slice-blocks.ensures.value ∙ c.self.view_is) in
    let left = length-drop c.args.at (shared_joined bs) in
    omega (arith, size, left, all, c.requires.len)

pub returns-clause-front : goal.returns-clause-front
returns-clause-front c =
    let bs = c.as_slice-blocks.result.now in
    let p = c.place_of-index.result in
    let own = items_in c.split_at-cut.result.before.now ++ line_items (lines c.split_at-cut.result.front.now) in
    c.items_through.ensures ∙ ap (λ b. shared_joined b ++ own) c.split_at-2.ensures.front
    ∙ split_front c.args.at bs p c.place_of-index.ensures c.index-blocks-index.result c.index-blocks-index.is own (c.split_at-cut.ensures.before ∙ ap (take p.1) c.deref.ensures)
    ∙ ap (take c.args.at) (ap shared_joined c.as_slice-blocks.ensures.value ∙ c.self.view_is)

pub returns-clause-back : goal.returns-clause-back
returns-clause-back c =
    let bs = c.as_slice-blocks.result.now in
    let p = c.place_of-index.result in
    let front = line_items (lines c.split_at-cut.result.back.now) in
    let back = items_in c.split_at-cut.result.after.now in
    c.items_from.ensures ∙ ap (λ b. front ++ (back ++ shared_joined b)) c.split_at-3.ensures.back
    ∙ split_back c.args.at bs p c.place_of-index.ensures c.index-blocks-index.result c.index-blocks-index.is front back (c.split_at-cut.ensures.after ∙ ap (drop p.1) c.deref.ensures)
    ∙ ap (drop c.args.at) (ap shared_joined c.as_slice-blocks.ensures.value ∙ c.self.view_is)
