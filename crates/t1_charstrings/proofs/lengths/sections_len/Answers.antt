use Rattle.std.proofs.Common.{rules, ◌≡◌, List, ℕ, [], filter, length, ap, arith}
use Rattle.t1_parts.specs.Stretches.{stands_alone}
use Rattle.t1_charstrings.specs.Sums.{section_lines_text}
use Rattle.t1_charstrings.proofs.SectionFrontLaws.{sections_front}
use Rattle.t1_charstrings.proofs.lengths.sections_len.Goals as goal

pub loop-item-init : goal.loop-item-init
loop-item-init c =
    let front = sections_front c.through_sections.result c.args.items.now c.through_sections.ensures.front c.through_sections.ensures.none in
    let alone : c.into_iter-item-iterator.result ≡ filter stands_alone c.through_sections.result = search rules in
    let all = ap section_lines_text alone in
    (search rules, search rules, search rules, omega (arith, ap (λ (t : List ℕ). length t) all, ap (λ (t : List ℕ). length t) front))

pub returns : goal.returns
returns c =
    let none : c.loop-item.item-iterator ≡ [] = search rules in
    omega (arith, ap (λ is. length (section_lines_text is)) none, c.loop-item.invariant.3)
