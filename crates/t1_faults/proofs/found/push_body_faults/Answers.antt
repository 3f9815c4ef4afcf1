use Rattle.std.proofs.Common.{◌≡◌, ◌∙◌, ◌∷◌, [], List, sym, subst}
use Rattle.std.specs.List.{All}
use Rattle.t1_frac.specs.Words.{words}
use Rattle.t1_faults.specs.declared.placed.PlacedWord.{PlacedWord}
use Rattle.t1_faults.specs.CodeForms.{entry_in_text}
use Rattle.t1_faults.proofs.PlacedLaws.{opened_single}
use Rattle.t1_faults.proofs.found.push_body_faults.Goals as goal

pub push_word_faults-requires : goal.push_word_faults-requires
push_word_faults-requires c =
    let e = entry_in_text c.args.entry.now in
    subst (λ (ws : List PlacedWord). All (λ (w : PlacedWord). words w.word ≡ w.word ∷ []) ws) (sym (c.deref-2.ensures.value ∙ c.in_ok-placed.ensures)) (opened_single e.number e.line e.later)
