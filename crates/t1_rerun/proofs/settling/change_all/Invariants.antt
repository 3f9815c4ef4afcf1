use Rattle.std.proofs.Common.{◌≡◌, ◌≤◌, length, vec_len}
use Rattle.indexmap.specs.IndexMap.{spare}
use Rattle.t1_rerun.specs.Steps.{after_all, seen}
use Rattle.t1_rerun.proofs.settling.change_all.Given as goal

-- with those that are left, what is seen is as all will leave it
abbrev pub invariant-loop-step : goal.invariant-loop-step
invariant-loop-step l = record {
  seen : after_all l.left.items (seen l.records) ≡ after_all l.fn.steps.items (seen l.fn.records);
  subrs : length l.left.items ≤ spare l.records.subrs;
  glyphs : length l.left.items ≤ spare l.records.glyphs;
}

abbrev pub decreases-loop-step : goal.decreases-loop-step
decreases-loop-step l = vec_len l.left
