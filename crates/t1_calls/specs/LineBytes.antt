-- The bytes of a line.
use Rattle.std.specs.Prelude.{ℕ, Bool, not}
use Rattle.t1_text.specs.Lines.{is_line_end}

-- word, lines: a byte that ends no line
abbrev pub is_line_byte : ℕ → Bool
is_line_byte c = not (is_line_end c)
