use Rattle.std.proofs.Common.{◌≡◌, ◌+◌, ◌++◌, ℕ, List, None, cond, length, vec_len}
use Rattle.t1_cache.specs.Renewed.{reruns_by_name}
use Rattle.t1_cache.specs.Room.{count_at}
use Rattle.t1_rerun.specs.declared.entry_change.EntryChange.{EntryChange}
use Rattle.t1_rerun.specs.Steps.{new_run, some_inserts, AreStepsOf}
use Rattle.t1_rerun.proofs.changing.preparing.steps_of.Given as goal

-- the changes after those that are left have their steps, and the runs of these are taken out
abbrev pub invariant-loop-change : goal.invariant-loop-change
invariant-loop-change l = record {
  done : List EntryChange;
  all : l.fn.changes.items ≡ l.left.items ++ done;
  steps : AreStepsOf (new_run (reruns_by_name l.fn.runs.entries)) (count_at l.counts) l.records done l.steps.items;
  runs : (g : List ℕ) → new_run (reruns_by_name l.runs.entries) g ≡ cond (some_inserts l.steps.items g) None (new_run (reruns_by_name l.fn.runs.entries) g);
  count : length l.left.items + length l.steps.items ≡ length l.fn.changes.items;
}

abbrev pub decreases-loop-change : goal.decreases-loop-change
decreases-loop-change l = vec_len l.left
