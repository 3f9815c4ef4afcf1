-- The command that a word most likely means.
use Rattle.std.specs.Prelude.{ℕ, Bool, ◌&&◌, nat_eq, nat_le, if◌then◌else◌, List, [], ◌∷◌, length, map, codes, Option, None}
use Rattle.std.specs.Char.{is_ascii_alphabetic}
use Rattle.std.specs.List.{find, list_all}
use Rattle.std.specs.Map.{lookup}
use Rattle.std.specs.Option.{option_or}
use Rattle.std.specs.Str.{bytes_eq}
use Rattle.strsim.specs.Edits.{levenshtein_row}
use Rattle.t1_code.specs.Words.{operator_words}

-- profile, hints: Levenshtein's distance: how many bytes are put in, taken out or replaced, at least, from one word to the other
abbrev pub edits : List ℕ → List ℕ → ℕ
edits word other = levenshtein_row nat_eq word other (length other)

-- profile, hints: the first of these words that is at most so many edits away
abbrev pub first_within : ℕ → List ℕ → List (List ℕ) → Option (List ℕ)
first_within most word others = find (λ other. nat_le (edits word other) most) others

-- Type 1 Font Format, Chapter 6 (charstring command encoding): the words of the commands, by their codes
unfoldable pub command_words : List (List ℕ)
command_words = map (λ row. row.0) operator_words

-- PostScript Language Reference, Chapter 8 (moveto, lineto, curveto): what a charstring has in place of operators of PostScript
unfoldable pub postscript_words : List (List ℕ × List ℕ)
postscript_words =
    (codes "moveto", codes "rmoveto") ∷
    (codes "lineto", codes "rlineto") ∷
    (codes "curveto", codes "rrcurveto") ∷
    []

-- profile, hints: a word of letters that is at most two longer than the longest command, setcurrentpoint
abbrev pub may_mean : List ℕ → Bool
may_mean word = nat_le (length word) 17 && list_all is_ascii_alphabetic word

-- profile, hints: what a word of PostScript means, else the first command within one edit, else within two
unfoldable pub hint_of : List ℕ → Option (List ℕ)
hint_of word =
    if may_mean word
    then option_or (lookup (bytes_eq word) postscript_words) (option_or (first_within 1 word command_words) (first_within 2 word command_words))
    else None
