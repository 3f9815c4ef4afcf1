-- The bytes of a body, cut where a comment begins or where it ends.
use Rattle.std.specs.Prelude.{◌≡◌, ◌≤◌, ◌+◌, ℕ, Some, None, List, length, drop}
use Rattle.t1_frac.specs.Words.{words}
use Rattle.t1_text.specs.Lines.{lines}
use Rattle.t1_text.specs.LineEnds.{line_ends}
use Rattle.t1_parts.specs.declared.body.BodyFront.{BodyFront}
use Rattle.t1_parts.specs.declared.body.BodyFront.TheVariants.{Commented, Closed, Open}
use Rattle.t1_parts.specs.Entries.{body_of, with_front}

-- word: the lines of the second bytes are those of the first after so many
abbrev pub AreLinesAfter : ℕ → List ℕ → List ℕ → Type 0
AreLinesAfter n bytes after = (n ≤ length (lines bytes)) × (lines after ≡ drop n (lines bytes))

-- word, entries: the body at the front of some bytes has this piece in front: whole lines and a comment, or all of it;
-- or it isn't ended
abbrev pub IsPiece : List ℕ → BodyFront → Type 0
IsPiece bytes (Commented front after) =
    (body_of (lines bytes) ≡ with_front (words front.now) (line_ends front.now + 1) (body_of (lines after.now)))
    × AreLinesAfter (line_ends front.now + 1) bytes after.now
    × (length front.now + 1 + length after.now ≤ length bytes)
IsPiece bytes (Closed front closing after) =
    (body_of (lines bytes) ≡ Some (record { words = words front.now; closing = closing.now; more = line_ends front.now }))
    × AreLinesAfter (line_ends front.now + 1) bytes after.now
    × (length front.now ≤ length bytes)
IsPiece bytes Open = body_of (lines bytes) ≡ None
