-- The printed form of a source.
use Rattle.std.specs.Prelude.{ℕ, if◌then◌else◌, List, [], ◌∷◌, ◌++◌, map, codes, flat_map, decimal}
use Rattle.std.specs.List.{onto_first, join_with_byte}
use Rattle.t1_frac.specs.Ascii.{close_brace, slash, space, tab}
use Rattle.t1_parts.specs.declared.item.Item.{Item}
use Rattle.t1_parts.specs.declared.item.Item.TheVariants.{Plain, Section, Subr, Glyph}
use Rattle.t1_text.specs.Lines.{joined}
use Rattle.t1_frac.specs.Numbers.{is_number_word}
use Rattle.t1_parts.specs.SourceParts.{SourceParts}

-- profile, printing: the words by lines, each of which ends after a word that isn't a number or after the last
abbrev pub word_groups : List (List ℕ) → List (List (List ℕ))
word_groups [] = []
word_groups (w ∷ ws) = if is_number_word w then onto_first w (word_groups ws) else (w ∷ []) ∷ word_groups ws

-- profile, printing: a tab, and the words with one space between
abbrev pub body_line : List (List ℕ) → List ℕ
body_line ws = tab ∷ join_with_byte space ws

-- profile, printing: a tab, `}`, and a space and the closing text where that isn't empty
abbrev pub last_line : List ℕ → List ℕ
last_line [] = tab ∷ close_brace ∷ []
last_line (c ∷ closing) = tab ∷ close_brace ∷ space ∷ c ∷ closing

-- profile, printing: the head of an entry, and the lines after it
abbrev pub entry_lines : List ℕ → List (List ℕ) → List ℕ → List (List ℕ)
entry_lines head ws closing = head ∷ (map body_line (word_groups ws) ++ last_line closing ∷ [])

-- profile, printing: the lines of an item
abbrev pub item_lines : Item → List (List ℕ)
item_lines (Plain l) = l ∷ []
item_lines (Section before n after) = (before ++ decimal n ++ after) ∷ []
item_lines (Subr n ws closing) = entry_lines (codes "dup " ++ decimal n ++ codes " {") ws closing
item_lines (Glyph g ws closing) = entry_lines (slash ∷ g ++ codes " {") ws closing

-- profile, printing: the lines of a source
abbrev pub text_lines : SourceParts → List (List ℕ)
text_lines s = s.clear ++ flat_map item_lines s.items ++ s.tail

-- profile, printing: the lines of a source, each with LF
abbrev pub text : SourceParts → List ℕ
text s = joined (text_lines s)
