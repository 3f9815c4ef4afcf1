use Rattle.std.proofs.Common.{◌≡◌, ◌∙◌, ◌++◌, ◌∷◌, [], cond, length, refl, sym, ap, rules}
use Rattle.std.proofs.lemmas.List.{append-nil, nil_from_length}
use Rattle.t1_faults.specs.GlyphRuns.{composites_kept}
use Rattle.t1_run.specs.RunKeys.{has_number}
use Rattle.t1_faults.proofs.composites.add_to_each.Goals as goal

pub loop-number-init : goal.loop-number-init
loop-number-init c = λ n. refl

pub loop-number-preserved : goal.loop-number-preserved
loop-number-preserved c = λ n.
    let left : c.loop-number.rest.now ≡ c.in-Some.number.now ∷ c.in-Some.after.now = search rules in
    c.in_ok-add_last.ensures n
    ∙ ap (λ r. composites_kept c.loop-number.composites.entries n ++ cond (has_number r n) (c.args.name.now ∷ []) []) (sym left)
    ∙ c.loop-number.invariant n

pub returns : goal.returns
returns c = λ n.
    let count : length c.loop-number.rest.now ≡ 0 = search rules in
    let none = nil_from_length c.loop-number.rest.now count in
    let kept = composites_kept c.loop-number.composites.entries n in
    sym (append-nil kept) ∙ ap (λ r. kept ++ cond (has_number r n) (c.args.name.now ∷ []) []) (sym none) ∙ c.loop-number.invariant n
