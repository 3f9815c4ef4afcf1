-- Blanks and words of a text.
use Rattle.std.specs.Prelude.{ℕ, Bool, false, not, ◌||◌, ◌==◌, if◌then◌else◌, List, [], ◌∷◌, drop}
use Rattle.std.specs.List.{onto_first, prefix_len}
use Rattle.t1_frac.specs.Ascii.{null, tab, line_feed, form_feed, carriage_return, space}

-- PostScript Language Reference, white space: the byte 0, a tab, a line feed, a form feed, a carriage return and a space;
-- a line has no line feed and no carriage return
abbrev pub is_blank : ℕ → Bool
is_blank c = c == null || c == tab || c == line_feed || c == form_feed || c == carriage_return || c == space

-- profile, lines: without the blanks at the front
abbrev pub trimmed_front : List ℕ → List ℕ
trimmed_front l = drop (prefix_len is_blank l) l

-- profile, words: whether a word that has come this far goes on
abbrev pub word_goes_on : List ℕ → Bool
word_goes_on [] = false
word_goes_on (c ∷ rest) = not (is_blank c)

-- profile, words: the longest runs of bytes that aren't blanks
abbrev pub words : List ℕ → List (List ℕ)
words [] = []
words (c ∷ rest) =
    if is_blank c then words rest
    else (if word_goes_on rest then onto_first c (words rest) else (c ∷ []) ∷ words rest)
