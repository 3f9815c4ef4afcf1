use Rattle.std.proofs.Common.{sym, ◌∙◌}
use Rattle.t1_refusal.proofs.TellingLaws.{place_told, word_told}
use Rattle.t1_refusal.proofs.telling.push_lines.Goals as goal

pub returns-then-is_of_word : goal.returns-then-is_of_word
returns-then-is_of_word g c =
    word_told c.args.items.now c.args.fault.now c.args.text.now.items c.push_fault.new.text.items c.in_ok-push_fault.ensures c.push_faulty_word.result c.push_faulty_word.new.text.items
    (sym c.is_of_word.ensures ∙ c.if-is_of_word.true) c.push_faulty_word.ensures

pub returns : goal.returns
returns g c =
    place_told c.args.items.now c.args.fault.now c.args.text.now.items c.push_fault.new.text.items c.in_ok-push_fault.ensures c.push_place.result c.push_place.new.text.items
    (sym c.is_of_word.ensures ∙ c.if-is_of_word.false) c.push_place.ensures
