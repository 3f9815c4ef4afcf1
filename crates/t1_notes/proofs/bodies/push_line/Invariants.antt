use Rattle.std.proofs.Common.{◌≡◌, ◌++◌, ◌+◌, length}
use Rattle.t1_text.specs.Tokens.{places_from}
use Rattle.t1_notes.specs.Kept.{kept_through, notes_by_place}
use Rattle.t1_notes.proofs.bodies.push_line.Given as goal

-- the notes so far, and those on the tokens that are left
abbrev pub invariant-loop-found : goal.invariant-loop-found
invariant-loop-found l =
    record {
      told :
          l.notes.items ++ notes_by_place l.number l.known (places_from l.place l.rest)
          ≡ l.fn.notes.items ++ notes_by_place l.number l.fn.kept (places_from 0 l.line);
      kept : kept_through l.known (places_from l.place l.rest) ≡ kept_through l.fn.kept (places_from 0 l.line);
      within : l.place + length l.rest ≡ length l.line;
    }

abbrev pub decreases-loop-found : goal.decreases-loop-found
decreases-loop-found l = length l.rest
