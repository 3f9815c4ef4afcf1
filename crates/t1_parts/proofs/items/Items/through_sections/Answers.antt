use Rattle.std.proofs.Common.{◌≡◌, ◌≤◌, false, length, drop, ap, subst, ◌∙◌}
use Rattle.std.specs.List.{list_any}
use Rattle.t1_parts.specs.EntryKeys.{is_section}
use Rattle.t1_parts.proofs.SectionEndLaws.{front_is}
use Rattle.t1_parts.proofs.items.Items.through_sections.Goals as goal

pub returns-clause-front : goal.returns-clause-front
returns-clause-front c =
    let n = c.self.inside.sections_end in
    let within : n ≤ length c.args.self.now = subst (λ xs. n ≤ length xs) c.self.view_is c.self.invariant.4 in
    (front_is n c.args.self.now c.split_at.result.0 within c.split_at.ensures.front).0

pub returns-clause-none : goal.returns-clause-none
returns-clause-none c =
    let n = c.self.inside.sections_end in
    let within : n ≤ length c.args.self.now = subst (λ xs. n ≤ length xs) c.self.view_is c.self.invariant.4 in
    let none : list_any is_section (drop n c.args.self.now) ≡ false = subst (λ xs. list_any is_section (drop n xs) ≡ false) c.self.view_is c.self.invariant.5 in
    ap (λ k. list_any is_section (drop k c.args.self.now)) (front_is n c.args.self.now c.split_at.result.0 within c.split_at.ensures.front).1 ∙ none
