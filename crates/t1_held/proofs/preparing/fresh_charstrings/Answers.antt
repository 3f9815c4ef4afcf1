use Rattle.std.proofs.Common.{◌∙◌, ap, sym, arith}
use Rattle.std.proofs.lemmas.List.{drop_all}
use Rattle.std.specs.Option.{option_or}
use Rattle.t1_charstrings.specs.Kept.{charstring_at}
use Rattle.t1_font.proofs.Compiling.{or-none}
use Rattle.t1_held.specs.Entries.{fresh_in}
use Rattle.t1_held.proofs.CommitLaws.{fresh-more}
use Rattle.t1_held.proofs.preparing.fresh_charstrings.Goals as goal

pub loop-change-init : goal.loop-change-init
loop-change-init c = λ k.
    ap (option_or (fresh_in c.args.lead c.args.changes.now k)) (c.no_charstrings-fresh.ensures k) ∙ sym (or-none (fresh_in c.args.lead c.args.changes.now k))

pub loop-change-preserved : goal.loop-change-preserved
loop-change-preserved c =
    fresh-more c.args.lead c.args.changes.now c.loop-change.change-index c.change-item.result c.loop-change.fresh c.put_fresh.new.fresh
    (omega arith) c.change-item.is c.loop-change.invariant c.in_ok-put_fresh.ensures

pub returns : goal.returns
returns c = λ k.
    let changes = c.args.changes.now in
    let none = drop_all c.loop-change.change-index changes (omega arith) in
    sym (ap (λ l. option_or (fresh_in c.args.lead l k) (charstring_at c.loop-change.fresh k)) none) ∙ c.loop-change.invariant k
