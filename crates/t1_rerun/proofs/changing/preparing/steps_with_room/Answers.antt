use Rattle.std.proofs.Common.{Vec, Global, subst}
use Rattle.t1_cache.specs.Renewed.{reruns_by_name}
use Rattle.t1_cache.specs.Room.{count_at}
use Rattle.t1_cache.specs.Users.{pairs_of_key}
use Rattle.t1_rerun.specs.declared.settling.RecordChange.{RecordChange}
use Rattle.t1_rerun.specs.Steps.{new_run, AreStepsOf}
use Rattle.t1_rerun.proofs.Preparing.{if-ok}
use Rattle.t1_rerun.proofs.changing.preparing.steps_with_room.Goals as goal

pub returns-clause-steps : goal.returns-clause-steps
returns-clause-steps c =
    let run = new_run (reruns_by_name c.args.runs.now.entries) in
    let records = c.args.records.now in
    let changes = c.args.changes.items in
    if-ok (λ (made : Vec RecordChange Global). AreStepsOf run (count_at c.in_ok-counts.counts) records changes made.items)
    (λ made. AreStepsOf run (pairs_of_key c.args.joins.now) records changes made.items)
    c.steps_of.result c.steps_of.ensures.steps
    (λ made are. subst (λ count. AreStepsOf run count records changes made.items) (λ j. λ k. c.in_ok-counts.ensures k j) are)
