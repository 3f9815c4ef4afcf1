-- Line ends, as a loop counts them.
use Rattle.std.specs.Prelude.{ℕ, ◌==◌, List, length, filter}
use Rattle.t1_frac.specs.Ascii.{line_feed}
use Rattle.t1_text.specs.Lines.{unified}

-- word, lines: how many line ends a text has
abbrev pub line_ends : List ℕ → ℕ
line_ends bytes = length (filter (λ c. c == line_feed) (unified bytes))
