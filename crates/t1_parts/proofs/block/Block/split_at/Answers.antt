use Rattle.std.proofs.Common.{◌∙◌, ◌++◌, ap, sym, subst, take, drop}
use Rattle.std.proofs.lemmas.List.{append-nil}
use Rattle.t1_text.specs.Lines.{lines}
use Rattle.t1_parts.specs.Items.{items_in, line_items}
use Rattle.t1_parts.specs.Stretches.{IsPlaceOfItem}
use Rattle.t1_parts.proofs.StretchLaws.{split_front, split_back}
use Rattle.t1_parts.proofs.block.Block.split_at.Goals as goal

pub returns-clause-before : goal.returns-clause-before
returns-clause-before c =
    let place = subst (λ ss. IsPlaceOfItem c.args.at ss c.place_of-index.result) (sym c.as_slice-stretches.ensures) c.place_of-index.ensures in
    split_front c.args.at c.as_slice-stretches.result.now c.split_at.result.0.now c.place_of-index.result c.index-stretches-index.result (line_items (lines c.as_bytes.result.now)) place c.if-index-stretches.false c.index-stretches-index.is c.split_at.ensures.front (ap line_items c.as_bytes.ensures.lines ∙ c.in-Some.ensures.0)
    ∙ ap (λ ss. take c.args.at (items_in ss)) c.as_slice-stretches.ensures
    ∙ ap (take c.args.at) c.self.view_is

pub returns-clause-after : goal.returns-clause-after
returns-clause-after c =
    let place = subst (λ ss. IsPlaceOfItem c.args.at ss c.place_of-index.result) (sym c.as_slice-stretches.ensures) c.place_of-index.ensures in
    let back = line_items (lines c.as_bytes-2.result.now) in
    ap (λ t. back ++ t) (sym (append-nil (items_in c.split_at-2.result.1.now)))
    ∙ split_back c.args.at c.as_slice-stretches.result.now c.split_at-2.result.1.now c.place_of-index.result c.index-stretches-index.result back place c.if-index-stretches.false c.index-stretches-index.is c.split_at-2.ensures.back (ap line_items c.as_bytes-2.ensures.lines ∙ c.in-Some.ensures.1)
    ∙ ap (λ ss. drop c.args.at (items_in ss)) c.as_slice-stretches.ensures
    ∙ ap (drop c.args.at) c.self.view_is
