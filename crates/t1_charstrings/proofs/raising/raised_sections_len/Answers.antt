use Rattle.std.proofs.Common.{rules, ◌≡◌, List, ℕ, [], filter, length, ap, arith}
use Rattle.t1_parts.specs.Stretches.{stands_alone}
use Rattle.t1_charstrings.specs.Raising.{raised_text}
use Rattle.t1_charstrings.proofs.SectionFrontLaws.{raised_sections_front}
use Rattle.t1_charstrings.proofs.raising.raised_sections_len.Goals as goal

pub loop-item-init : goal.loop-item-init
loop-item-init c =
    let n = c.args.needed.now in
    let front = raised_sections_front n.subrs n.glyphs c.through_sections.result c.args.items.now c.through_sections.ensures.front c.through_sections.ensures.none in
    let alone : c.into_iter-item-iterator.result ≡ filter stands_alone c.through_sections.result = search rules in
    let all = ap (raised_text n.subrs n.glyphs) alone in
    (search rules, search rules, search rules, omega (arith, ap (λ (t : List ℕ). length t) all, ap (λ (t : List ℕ). length t) front))

pub returns : goal.returns
returns c =
    let n = c.args.needed.now in
    let none : c.loop-item.item-iterator ≡ [] = search rules in
    omega (arith, ap (λ is. length (raised_text n.subrs n.glyphs is)) none, c.loop-item.invariant.3)
