use Rattle.std.proofs.Common.{◌≡◌, ◌<◌, ◌≤◌, ◌∙◌, ◌++◌, ◌+◌, rules, length, take, drop, ap, sym, arith}
use Rattle.std.specs.List.{find, slice_index_or}
use Rattle.std.proofs.lemmas.List.{length-append, length-drop}
use Rattle.t1_parts.specs.LenIV.{says_lead}
use Rattle.t1_parts.specs.NumberedStretches.{numbered_in}
use Rattle.t1_parts.specs.Stretches.{stretches_in}
use Rattle.t1_parts.proofs.NumberedLaws.{lists_from, said_in_list, said_in_others}
use Rattle.t1_parts.proofs.gathered_stretches.GatheredStretches.first_saying.Goals as goal

pub returns-in-Some : goal.returns-in-Some
returns-in-Some c =
    let lists = c.self.inside.full.items in
    let last = c.self.inside.last.items in
    let i = c.loop-stretches.stretches-index in
    let list = c.stretches-item.result in
    let left = c.loop-stretches.left.now in
    let rest = stretches_in (drop (i + 1) lists) ++ last in
    let inside : i < length lists = search rules in
    let is : list ≡ slice_index_or lists i list = search rules in
    let cut = lists_from i lists list last inside is in
    let within : length list.items ≤ length left = omega (arith, c.loop-stretches.invariant.0, ap length cut, length-append list.items rest) in
    let size = c.len.ensures ∙ sym c.as_slice.ensures.len ∙ ap length c.as_slice.ensures.value in
    let front = c.split_at.ensures.front ∙ ap (λ k. take k left) size in
    let here = ap (λ ns. find (λ i. says_lead i.1) (numbered_in ns c.as_slice.result.now)) front
    ∙ ap (λ ss. find (λ i. says_lead i.1) (numbered_in (take (length list.items) left) ss)) c.as_slice.ensures.value in
    sym (said_in_list left list.items rest (c.in-Some.found.0, c.in-Some.found.1.now) within (sym here ∙ sym c.in-Some.ensures))
    ∙ ap (λ ss. find (λ i. says_lead i.1) (numbered_in left ss)) (sym cut) ∙ c.loop-stretches.invariant.1

pub loop-stretches-preserved : goal.loop-stretches-preserved
loop-stretches-preserved c =
    let lists = c.self.inside.full.items in
    let last = c.self.inside.last.items in
    let i = c.loop-stretches.stretches-index in
    let list = c.stretches-item.result in
    let left = c.loop-stretches.left.now in
    let rest = stretches_in (drop (i + 1) lists) ++ last in
    let inside : i < length lists = search rules in
    let is : list ≡ slice_index_or lists i list = search rules in
    let cut = lists_from i lists list last inside is in
    let all = ap length cut ∙ length-append list.items rest in
    let within : length list.items ≤ length left = omega (arith, c.loop-stretches.invariant.0, all) in
    let size = c.len.ensures ∙ sym c.as_slice.ensures.len ∙ ap length c.as_slice.ensures.value in
    let front = c.split_at.ensures.front ∙ ap (λ k. take k left) size in
    let back = c.split_at.ensures.back ∙ ap (λ k. drop k left) size in
    let here = ap (λ ns. find (λ i. says_lead i.1) (numbered_in ns c.as_slice.result.now)) front
    ∙ ap (λ ss. find (λ i. says_lead i.1) (numbered_in (take (length list.items) left) ss)) c.as_slice.ensures.value in (
      ap length back ∙ length-drop (length list.items) left ∙ omega (arith, c.loop-stretches.invariant.0, all),
      ap (λ ns. find (λ i. says_lead i.1) (numbered_in ns rest)) back
          ∙ sym (said_in_others left list.items rest within (sym here ∙ sym c.in_default.ensures))
          ∙ ap (λ ss. find (λ i. says_lead i.1) (numbered_in left ss)) (sym cut) ∙ c.loop-stretches.invariant.1,
    )
