use Rattle.std.proofs.Common.{Ok, List, [], ◌∷◌, ◌++◌, ap, sym, ◌∙◌}
use Rattle.t1_text.specs.Lines.{lines}
use Rattle.t1_parts.specs.declared.item.Item.TheVariants.{Plain}
use Rattle.t1_parts.specs.Entries.{NumberedItem}
use Rattle.t1_parts.proofs.ItemLaws.{last_given}
use Rattle.t1_parts.proofs.gathered.private_items.Goals as goal

pub returns : goal.returns
returns c =
    let items = c.in_ok-items.items in
    let last = c.args.last.now in
    last_given c.args.number (lines c.args.bytes.now) last items c.in_ok-items.ensures.value
    ∙ ap (λ k. Ok (items ++ (k, Plain last) ∷ [])) (sym c.in_ok-items.ensures.number)
    ∙ ap (λ l. Ok (items ++ (c.in_ok-items.further, Plain l) ∷ [])) (sym c.borrowed.ensures)
    ∙ ap (λ (all : List NumberedItem). Ok all) (sym c.in_ok-with.ensures)
