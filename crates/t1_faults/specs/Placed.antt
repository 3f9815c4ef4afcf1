-- Words of a body where they stand in the source.
use Rattle.std.specs.Prelude.{◌≡◌, ◌==◌, ℕ, ◌+◌, if◌then◌else◌, List, [], ◌∷◌, ◌++◌, length, map}
use Rattle.std.specs.List.{before_first, after_first, position_or_len}
use Rattle.t1_frac.specs.Ascii.{open_brace}
use Rattle.t1_frac.specs.Words.{is_blank, word_goes_on}
use Rattle.t1_text.specs.Delimiters.{is_brace}
use Rattle.t1_text.specs.Tokens.{onto_place, uncommented}
use Rattle.t1_parts.specs.Entries.{has_brace}
use Rattle.t1_faults.specs.declared.placed.PlacedWord.{PlacedWord}

-- profile, places: the words of a text whose first byte has this column, each with the column of its own first byte
abbrev pub columns_from : ℕ → List ℕ → List (ℕ × List ℕ)
columns_from column [] = []
columns_from column (c ∷ rest) =
    if is_blank c then columns_from (column + 1) rest
    else (if word_goes_on rest then onto_place column c (columns_from (column + 1) rest) else (column, c ∷ []) ∷ columns_from (column + 1) rest)

-- profile, places: a word with its column, on the line of this number
abbrev pub on_line : ℕ → ℕ × List ℕ → PlacedWord
on_line number found = record { line = number; column = found.0; word = found.1 }

-- profile, places: the words of a part of a line, of which the first byte has this column
abbrev pub placed_line : ℕ → ℕ → List ℕ → List PlacedWord
placed_line number column text = map (on_line number) (columns_from column text)

-- profile, places: the words of a body, which goes from this column of its first line to the first brace outside comments
abbrev pub placed_body : ℕ → ℕ → List (List ℕ) → List PlacedWord
placed_body number column [] = []
placed_body number column (l ∷ ls) =
    if has_brace l then placed_line number column (before_first is_brace l)
    else placed_line number column (uncommented l) ++ placed_body (number + 1) 1 ls

-- profile, places: the words of the body that opens on the first of these lines, which has this number
abbrev pub opened_words : ℕ → List ℕ → List (List ℕ) → List PlacedWord
opened_words number l ls =
    placed_body number (position_or_len (λ c. c == open_brace) l + 2) (after_first (λ c. c == open_brace) l ∷ ls)

-- profile, places: these lines have the bytes at this column of the line of this number, both counted from 1
abbrev pub HasAt : List (List ℕ) → ℕ → ℕ → List ℕ → Type 0
HasAt ls number column bytes =
    (above : List (List ℕ)) × (below : List (List ℕ)) × (front : List ℕ) × (back : List ℕ)
    × (ls ≡ above ++ (front ++ (bytes ++ back)) ∷ below) × (number ≡ length above + 1) × (column ≡ length front + 1)
