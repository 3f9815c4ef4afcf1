use Rattle.std.proofs.Common.{◌≡◌, length}
use Rattle.t1_faults.specs.GlyphRuns.{composites_kept}
use Rattle.t1_faults.proofs.CompositeLaws.{given}
use Rattle.t1_faults.proofs.composites.give_each.Given as goal

-- the faults so far have their composites
abbrev pub invariant-loop-number : goal.invariant-loop-number
invariant-loop-number l = record {
  given : l.found.items ≡ given (composites_kept l.composites.entries) 0 l.number l.fn.found.items;
  count : length l.found.items ≡ length l.fn.found.items;
}
