use Rattle.std.proofs.Common.{drop}
use Rattle.std.specs.Prelude.{All}
use Rattle.t1_run.proofs.Moved.{Leads}
use Rattle.t1_run.specs.Composite.{moved_outline, IsWithin}
use Rattle.t1_run.proofs.composite.push_moved.Given as goal

-- what is left, moved, makes the whole; what is there so far is within the limits where the outline was
abbrev pub invariant-loop-segment : goal.invariant-loop-segment
invariant-loop-segment l = record {
  moved : Leads (moved_outline l.by (drop l.segment-index l.segments)) l.outline.items (moved_outline l.by l.fn.segments) l.fn.outline.items;
  within : All IsWithin l.fn.outline.items → All IsWithin l.outline.items;
}
