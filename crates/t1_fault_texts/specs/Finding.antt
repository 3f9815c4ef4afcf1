-- The fault of a kerning file, where it stands.
use Rattle.std.specs.Prelude.{ℕ, Result, Ok, Err, List, [], ◌∷◌}
use Rattle.t1_frac.specs.declared.fault.Fault.{Fault}
use Rattle.t1_text.specs.Lines.{lines}
use Rattle.t1_pairs.specs.Kerning.{pairs}
use Rattle.t1_faults.specs.Reading.{reading_fault}
use Rattle.t1_faults.specs.declared.found.FoundFault.{FoundFault}

-- profile, faults: the fault of reading pairs, where they have one
abbrev pub first_fault : {X : Type 0} → List (List ℕ) → Result X Fault → List FoundFault
first_fault ls (Ok read) = []
first_fault ls (Err fault) = reading_fault ls fault ∷ []

-- profile, faults: the fault of a kerning file, where it has one
abbrev pub pairs_faults : List ℕ → List FoundFault
pairs_faults bytes = first_fault (lines bytes) (pairs bytes)
