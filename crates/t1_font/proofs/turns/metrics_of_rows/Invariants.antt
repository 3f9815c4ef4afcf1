use Rattle.std.proofs.Common.{ℕ, List, Option}
use Rattle.std.specs.Prelude.{Result}
use Rattle.t1_frac.specs.declared.fault.Code.{Code}
use Rattle.t1_run.specs.Run.{Drawing}
use Rattle.t1_font.specs.InTurn.{AreRows, RunsStay}
use Rattle.t1_font.proofs.InTurnLaws.{RowsLeft}
use Rattle.t1_font.proofs.turns.metrics_of_rows.Given as goal

-- what was measured, in front of what is measured of the glyphs that are left
abbrev pub invariant-loop-row : goal.invariant-loop-row
invariant-loop-row l =
    (run : List ℕ → Option (Result Drawing Code)) (names : List (List ℕ)) → AreRows run names l.fn.rows → RunsStay run names l.runs
    → RowsLeft run names l.metrics.items l.row-iterator.rest.items
