use Rattle.std.proofs.Common.{◌∙◌, ◌∷◌, [], ◌++◌, ap, subst, sym}
use Rattle.std.proofs.lemmas.List.{append_assoc}
use Rattle.t1_cache.specs.Renewed.{reruns_by_name}
use Rattle.t1_cache.specs.Room.{count_at}
use Rattle.t1_rerun.specs.Settled.{changed_keys, AreDistinctKeys}
use Rattle.t1_rerun.specs.Steps.{new_run, some_inserts, AreStepsOf}
use Rattle.std.proofs.Common.{cond, None, ◌≡◌}
use Rattle.t1_rerun.proofs.Preparing.{apart-after, count-next, next-step, runs-left}
use Rattle.t1_rerun.proofs.changing.preparing.steps_of.Goals as goal

pub loop-change-preserved : goal.loop-change-preserved
loop-change-preserved c =
    let was = c.loop-change.invariant in
    let change = c.in-Some.change in
    let step = c.in_ok-step_of.field-0 in
    let rest = c.pop.new.self.items in
    let made = c.loop-change.steps.items in
    let run = new_run (reruns_by_name c.args.runs.now.entries) in
    let now = new_run (reruns_by_name c.loop-change.runs.entries) in
    let count = count_at c.args.counts.now in
    let records = c.args.records.now in
    let all = was.all ∙ ap (λ l. l ++ was.done) c.in-Some.ensures.items ∙ append_assoc rest (change ∷ []) was.done in
    let apart = apart-after rest change was.done (subst (λ l. AreDistinctKeys (changed_keys l)) all c.requires) in
    record {
      done = change ∷ was.done;
      all = all;
      steps =
          subst (AreStepsOf run count records (change ∷ was.done)) (sym c.in_ok-push.ensures.items)
          (next-step run count records was.done made was.steps change step now apart was.runs c.in_ok-step_of.ensures.step);
      runs = λ g.
          subst (λ l. new_run (reruns_by_name c.step_of.new.runs.entries) g ≡ cond (some_inserts l g) None (run g)) (sym c.in_ok-push.ensures.items)
          (runs-left made step run now (new_run (reruns_by_name c.step_of.new.runs.entries)) was.runs c.in_ok-step_of.ensures.runs g);
      count = count-next c.loop-change.left.items rest change made c.push.new.self.items step _ c.in-Some.ensures.items c.in_ok-push.ensures.items was.count;
    }
