use Rattle.std.proofs.Common.{◌≡◌, ◌∙◌, ◌++◌, ◌∷◌, [], true, false, cond, ap, sym, rules}
use Rattle.t1_faults.specs.GlyphRuns.{composites_kept}
use Rattle.t1_run.specs.RunKeys.{has_number}
use Rattle.t1_faults.proofs.CompositeLaws.{again_later, last_time}
use Rattle.t1_faults.proofs.composites.add_last.Goals as goal

pub returns-then-has_number : goal.returns-then-has_number
returns-then-has_number c = λ n.
    let later : has_number c.args.after.now c.args.number ≡ true = search rules in
    ap (λ b. composites_kept c.args.composites.now.entries n ++ cond b (c.args.name.now ∷ []) []) (again_later n c.args.number c.args.after.now later)

pub returns : goal.returns
returns c = λ n.
    let last : has_number c.args.after.now c.args.number ≡ false = search rules in
    last_time n c.args.number c.args.after.now c.args.name.now (composites_kept c.args.composites.now.entries n) (composites_kept c.add_name.new.composites.entries n) last
    (c.in_ok-add_name.ensures n)
