-- The lines of a session's input.
use Rattle.std.specs.Prelude.{ℕ, Bool, ◌==◌, if◌then◌else◌, List, take, count_by}
use Rattle.t1_frac.specs.Ascii.{line_feed}
use Rattle.t1_text.specs.Lines.{split_lines}

-- profile, session input: how many lines of a text have their end, an LF
abbrev pub ended_lines : List ℕ → ℕ
ended_lines text = count_by (λ c. c == line_feed) text

-- profile, session input: the lines that have their end and, once the text has ended, a last one without, where it isn't empty
abbrev pub finished_lines : Bool → List ℕ → List (List ℕ)
finished_lines ended text = if ended then split_lines text else take (ended_lines text) (split_lines text)
