-- The bytes that end a body and that begin a comment.
use Rattle.std.specs.Prelude.{ℕ, Bool, not, ◌||◌, ◌==◌}
use Rattle.t1_frac.specs.Ascii.{close_brace, open_brace, percent}

-- profile, entries: `{` and `}`
abbrev pub is_brace : ℕ → Bool
is_brace c = c == open_brace || c == close_brace

-- profile, entries: a byte that is no brace, nor the `%` of a comment
abbrev pub is_safe : ℕ → Bool
is_safe c = not (is_brace c || c == percent)
