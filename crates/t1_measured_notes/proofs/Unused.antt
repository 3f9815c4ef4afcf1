-- Subrs that none enters, by the lines that open them.
use Rattle.std.proofs.Common.{◌≡◌, ℕ, Bool, false, List, [], ◌∷◌, ◌++◌, refl, ap}
use Rattle.t1_notes.specs.declared.line.Line.{Line}
use Rattle.t1_notes.specs.Told.{told}
use Rattle.t1_measured_notes.specs.MeasuredNotes.{follows_unused, unused_among, unused_note}
use Rattle.t1_measured_notes.specs.UnusedByLine.{unused_by_line}

unused_after : (entered : ℕ → Bool) (before ls : List Line)
    → told (λ before l. unused_note entered (follows_unused entered before) l) before ls ≡ unused_by_line entered (follows_unused entered before) ls
unused_after entered before [] = refl
unused_after entered before (l ∷ ls) =
    ap (λ more. unused_note entered (follows_unused entered before) l ++ more) (unused_after entered (l ∷ before) ls)

pub unused_by : (entered : ℕ → Bool) (ls : List Line) → unused_among entered ls ≡ unused_by_line entered false ls
unused_by entered ls = unused_after entered [] ls
