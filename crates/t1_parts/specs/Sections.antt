-- Section lines of a private part.
use Rattle.std.specs.Prelude.{ℕ, Bool, false, ◌+◌, ◌&&◌, if◌then◌else◌, Option, Some, None, option_map, List, [], ◌∷◌, length, take, drop, codes}
use Rattle.std.specs.Str.{bytes_eq}
use Rattle.t1_parts.specs.declared.item.Item.{Item}
use Rattle.t1_parts.specs.declared.item.Item.TheVariants.{Section}
use Rattle.t1_text.specs.Tokens.{tokens, last_is, places_from}
use Rattle.t1_text.specs.Names.{is_count}
use Rattle.t1_frac.specs.Numbers.{decimal_value}

-- profile, sections: the count of the first key, count and word in a row, with its place
abbrev pub count_between : List ℕ → List ℕ → List (ℕ × List ℕ) → Option (ℕ × List ℕ)
count_between key word [] = None
count_between key word (a ∷ []) = None
count_between key word (a ∷ n ∷ []) = None
count_between key word (a ∷ n ∷ b ∷ more) =
    if bytes_eq a.1 key && is_count n.1 && bytes_eq b.1 word then Some n else count_between key word (n ∷ b ∷ more)

-- profile, sections: the section line whose count stands there
abbrev pub section_at : List ℕ → ℕ × List ℕ → Item
section_at l n = Section (take n.0 l) (decimal_value n.1) (drop (n.0 + length n.1) l)

-- Type 1 Font Format, Subrs: a line that holds `/Subrs`, N, `array`
abbrev pub subrs_line : List ℕ → Option Item
subrs_line l = option_map (section_at l) (count_between (codes "/Subrs") (codes "array") (places_from 0 l))

-- Type 1 Font Format, CharStrings: a line that holds `/CharStrings`, N, `dict`
abbrev pub glyphs_line : List ℕ → Option Item
glyphs_line l = option_map (section_at l) (count_between (codes "/CharStrings") (codes "dict") (places_from 0 l))

-- profile, sections: whether an item is the Subrs line
abbrev pub is_subrs_line : Item → Bool
is_subrs_line (Section before n after) = last_is (codes "/Subrs") (tokens before)
is_subrs_line _ = false

-- profile, sections: whether an item is the CharStrings line
abbrev pub is_glyphs_line : Item → Bool
is_glyphs_line (Section before n after) = last_is (codes "/CharStrings") (tokens before)
is_glyphs_line _ = false
