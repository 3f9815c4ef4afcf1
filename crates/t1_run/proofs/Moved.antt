-- Outlines moved segment by segment.
use Rattle.std.proofs.Common.{◌≡◌, List, ◌++◌}
use Rattle.std.specs.Prelude.{Result, Ok, Err}
use Rattle.t1_frac.specs.declared.fault.Code.{Code}
use Rattle.t1_run.specs.declared.outline.Segment.{Segment}

-- where the rest, moved, is more, that more leads from the present to the end: the same fault, or the same whole
abbrev pub Leads : Result (List Segment) Code → List Segment → Result (List Segment) Code → List Segment → Type 0
Leads (Ok rest) present (Ok whole) start = present ++ rest ≡ start ++ whole
Leads (Ok rest) present (Err fault) start = ⊥
Leads (Err fault) present whole start = whole ≡ Err fault
