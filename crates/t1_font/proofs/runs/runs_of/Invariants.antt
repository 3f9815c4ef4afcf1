use Rattle.std.proofs.Common.{◌≡◌, ℕ, List, map, drop}
use Rattle.t1_run.specs.Run.{font}
use Rattle.t1_font.specs.Runs.{run_kept, AreTraced, IsNumberedAfter}
use Rattle.t1_font.specs.RunCounts.{counted}
use Rattle.t1_font.proofs.Keeping.{RunsInFront}
use Rattle.t1_font.proofs.runs.runs_of.Given as goal

-- the runs so far with their traces, with numbers after the first count, and one count for each
abbrev pub invariant-loop-name : goal.invariant-loop-name
invariant-loop-name g l = record {
  kept : RunsInFront (font (g.B.Bodies.subrs l.bodies) (g.B.Bodies.glyphs l.bodies)) (map (λ name. name.now) (drop l.name-index l.names)) l.runs (map (λ name. name.now) l.names);
  traced : AreTraced l.runs;
  after : (g : List ℕ) → IsNumberedAfter l.fn.meter (run_kept l.runs g);
  counted : l.meter ≡ counted l.fn.meter l.name-index;
}
