-- Lines of a text.
use Rattle.std.specs.Prelude.{ℕ, Bool, false, not, ◌||◌, ◌&&◌, ◌==◌, if◌then◌else◌, List, [], ◌∷◌, ◌++◌, ◌-◌, length, take, drop, reverse, flat_map}
use Rattle.std.specs.List.{list_all, onto_first}
use Rattle.t1_frac.specs.Ascii.{carriage_return, line_feed}
use Rattle.t1_frac.specs.Words.{trimmed_front}

-- profile, lines: the bytes of line ends, LF and CR
abbrev pub is_line_end : ℕ → Bool
is_line_end c = c == line_feed || c == carriage_return

-- profile: whether the list begins with this byte
abbrev pub begins_with : ℕ → List ℕ → Bool
begins_with b [] = false
begins_with b (c ∷ rest) = b == c

-- profile, lines: each line end, LF, CR LF or CR, as one LF
abbrev pub unified : List ℕ → List ℕ
unified [] = []
unified (c ∷ rest) =
    if c == carriage_return then (if begins_with line_feed rest then unified rest else line_feed ∷ unified rest) else c ∷ unified rest

-- profile, lines: the lines of a text whose line ends are LF; a last line without an end counts where it isn't empty
abbrev pub split_lines : List ℕ → List (List ℕ)
split_lines [] = []
split_lines (c ∷ rest) = if c == line_feed then [] ∷ split_lines rest else onto_first c (split_lines rest)

-- profile, lines: they end with LF, CR LF or CR
abbrev pub lines : List ℕ → List (List ℕ)
lines bytes = split_lines (unified bytes)

-- profile, lines: the bytes after a line end, of which CR LF is one
abbrev pub after_end : List ℕ → List ℕ
after_end [] = []
after_end (c ∷ rest) = if c == carriage_return && begins_with line_feed rest then drop 1 rest else rest

-- profile, printing: each line with LF
abbrev pub joined : List (List ℕ) → List ℕ
joined ls = flat_map (λ l. l ++ line_feed ∷ []) ls

-- profile, lines: without blanks at both ends
abbrev pub trimmed : List ℕ → List ℕ
trimmed l = reverse (trimmed_front (reverse (trimmed_front l)))

-- profile, lines: whether a line has no line end in it
abbrev pub is_line : List ℕ → Bool
is_line l = list_all (λ c. not (is_line_end c)) l

-- profile, lines: the bytes in front of the rest of some bytes
abbrev pub before_rest : List ℕ → List ℕ → List ℕ
before_rest bytes rest = take (length bytes - length rest) bytes
