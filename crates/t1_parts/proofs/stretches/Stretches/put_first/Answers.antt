use Rattle.std.proofs.Common.{◌<◌, ◌++◌, ◌∷◌, ◌∙◌, ap, refl, sym, subst, take, drop, length, arith}
use Rattle.std.specs.List.{slice_index_or}
use Rattle.t1_parts.specs.Items.{items_in, stretch_items}
use Rattle.t1_parts.specs.Starts.{starts_from}
use Rattle.t1_parts.specs.Stretches.{AreSingle}
use Rattle.t1_parts.specs.declared.stretch.Stretch.TheVariants.{One, Lines}
use Rattle.t1_parts.proofs.EntryPlaceLaws.{passed_within}
use Rattle.t1_parts.proofs.SingleLaws.{single_set}
use Rattle.t1_parts.proofs.StartLaws.{starts_set}
use Rattle.t1_parts.proofs.StretchLaws.{first_put, first_split, first_alone}
use Rattle.t1_parts.proofs.stretches.Stretches.put_first.Goals as goal

pub invariant_of-self : goal.invariant_of-self
invariant_of-self c =
    let ss = c.self.inside.stretches.items in
    let view = ap length c.self.view_is in
    let here : c.args.index < length ss = omega (arith, view, c.requires.within) in
    let same = ap (λ s. length (stretch_items s)) c.index-stretch.ensures in (
      λ on. subst AreSingle (sym c.put_stretch.ensures) (single_set c.args.index ss (One c.args.item) (c.self.invariant.0 on) refl),
      λ off. starts_set c.args.index c.self.inside.starts.items ss (One c.args.item) c.index-stretch.result.now (c.self.invariant.1 off) here (omega (arith, same, c.len.ensures.value, c.if-len-eq1.true)) ∙ ap (starts_from 0) (sym c.put_stretch.ensures),
    )

pub returns-then-len-eq1-clause-ok : goal.returns-then-len-eq1-clause-ok
returns-then-len-eq1-clause-ok c =
    let ss = c.self.inside.stretches.items in
    let view = ap length c.self.view_is in
    let here : c.args.index < length ss = omega (arith, view, c.requires.within) in
    let same = ap (λ s. length (stretch_items s)) c.index-stretch.ensures in
    ap items_in c.put_stretch.ensures
    ∙ first_put c.args.index ss (One c.args.item) c.index-stretch.result.now c.args.item here (omega (arith, same, c.len.ensures.value, c.if-len-eq1.true)) refl
    ∙ ap (λ xs. items_in (take c.args.index xs) ++ (c.args.item ∷ drop 1 (items_in (drop c.args.index xs)))) c.self.view_is

pub overflow_add-at : goal.overflow_add-at
overflow_add-at c =
    let ss = c.args.self.now in
    let s = c.index-stretch.result.now in
    let same = ap (λ t. length (stretch_items t)) (c.index-stretch.ensures ∙ ap (λ xs. slice_index_or xs c.args.index s) c.self.view_is) in
    let all = passed_within c.args.index ss s c.requires.within in
    omega (arith, same, all, c.len.ensures.value, c.len.ensures.some, c.if-len-eq1.false, c.requires.at, c.requires.small)

pub returns-clause-ok : goal.returns-clause-ok
returns-clause-ok c =
    let ss = c.args.self.now in
    let s = c.index-stretch.result.now in
    let is = c.index-stretch.ensures ∙ ap (λ xs. slice_index_or xs c.args.index s) c.self.view_is in
    let same = ap (λ t. length (stretch_items t)) is in
    ap items_in c.in_ok-split.ensures.ok
    ∙ first_split c.args.index ss (One c.args.item) (Lines c.in-Some.rest) s c.args.item c.requires.within (omega (arith, same, c.len.ensures.value, c.len.ensures.some)) refl (c.in-Some.ensures.1 ∙ ap (λ t. drop 1 (stretch_items t)) is)

pub returns-in_err-split-clause-still : goal.returns-in_err-split-clause-still
returns-in_err-split-clause-still c alone =
    let s = c.index-stretch.result.now in
    let is = c.index-stretch.ensures ∙ ap (λ xs. slice_index_or xs c.args.index s) c.self.view_is in
    absurd (first_alone c.args.index c.args.self.now s c.requires.within is
    (omega (arith, c.len.ensures.value, c.len.ensures.some)) (λ d. c.len.ensures.silent 0 d c.len.ensures.some (omega (arith, c.len.ensures.some, c.if-len-eq1.false))) alone)
