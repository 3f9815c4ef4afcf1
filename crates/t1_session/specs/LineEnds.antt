-- The ends of lines in a session's input.
use Rattle.std.specs.Prelude.{ℕ, Bool, not, ◌==◌, ◌&&◌, ◌||◌, List, [], ◌∷◌}
use Rattle.t1_frac.specs.Ascii.{carriage_return, line_feed}

-- profile: a CR ends its line at once, and so does an LF that belongs to no CR
abbrev pub ends_line : Bool → ℕ → Bool
ends_line after_return b = b == carriage_return || (b == line_feed && not after_return)

-- profile: whether the last of these bytes is a CR; where there are none, what holds before them
abbrev pub ends_in_return : Bool → List ℕ → Bool
ends_in_return before [] = before
ends_in_return before (b ∷ bs) = ends_in_return (b == carriage_return) bs
