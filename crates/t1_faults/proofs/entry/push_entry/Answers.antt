use Rattle.std.proofs.Common.{◌≡◌, ◌∙◌, ◌+◌, ◌++◌, map, Some, refl, sym, ap, arith}
use Rattle.t1_text.specs.Lines.{lines}
use Rattle.t1_parts.specs.Entries.{opened_body}
use Rattle.t1_parts.specs.ItemRefs.{item_of}
use Rattle.t1_faults.specs.Entries.{entries_from, place_in}
use Rattle.t1_faults.specs.CodeForms.{entry_in_text}
use Rattle.t1_faults.proofs.LoopLaws.{entry_on, opened_none, opened_rest, opened_size}
use Rattle.t1_faults.proofs.PlacedLaws.{map_append}
use Rattle.t1_faults.proofs.entry.push_entry.Goals as goal

pub returns-in-Some-2-clause-entries : goal.returns-in-Some-2-clause-entries
returns-in-Some-2-clause-entries c = λ items.
    let l = c.first_line.result.0.now in
    let ls = lines c.first_line.result.1.now in
    let here : place_in (item_of c.args.item.now) ≡ Some c.in-Some.place = sym c.in_ok-place.ensures ∙ c.in-Some.is in
    let found : c.in_ok-body.field-0 ≡ Some (c.in-Some-2.body, c.in-Some-2.after) = c.in-Some-2.is in
    let value = c.in_ok-body.ensures.value ls c.first_line.ensures.lines in
    let size = opened_size c.in_ok-body.field-0 (opened_body l ls) c.in-Some-2.body c.in-Some-2.after value found in
    let rest = opened_rest c.in_ok-body.field-0 c.in-Some-2.body c.in-Some-2.after c.args.bytes.now l ls found (c.in_ok-body.ensures.after ls c.first_line.ensures.lines) c.first_line.ensures.lines in
    entry_on c.args.number (lines c.args.bytes.now) l ls (lines c.in-Some-2.after.now) (item_of c.args.item.now) items c.in-Some.place c.in-Some-2.body.more
    (map entry_in_text c.args.entries.now.items) (map entry_in_text c.push.new.self.items) c.first_line.ensures.lines here size rest
    (ap (map entry_in_text) c.in_ok-push.ensures.items ∙ map_append entry_in_text c.args.entries.now.items _)

pub returns-in-None-clause-entries : goal.returns-in-None-clause-entries
returns-in-None-clause-entries c = λ items.
    let l = c.first_line.result.0.now in
    let ls = lines c.first_line.result.1.now in
    let here : place_in (item_of c.args.item.now) ≡ Some c.in-Some.place = sym c.in_ok-place.ensures ∙ c.in-Some.is in
    let value = c.in_ok-body.ensures.value ls c.first_line.ensures.lines in
    let size = opened_none c.in_ok-body.field-0 (opened_body l ls) value c.in-None.is in
    let zero_more : c.args.number + 1 ≡ c.args.number + 1 + 0 = omega arith in
    ap (λ k. map entry_in_text c.push.new.self.items ++ entries_from k ls items) zero_more
    ∙ entry_on c.args.number (lines c.args.bytes.now) l ls ls (item_of c.args.item.now) items c.in-Some.place 0
    (map entry_in_text c.args.entries.now.items) (map entry_in_text c.push.new.self.items) c.first_line.ensures.lines here size refl
    (ap (map entry_in_text) c.in_ok-push.ensures.items ∙ map_append entry_in_text c.args.entries.now.items _)
