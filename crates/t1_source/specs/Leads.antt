-- lenIV put into a private part.
use Rattle.std.specs.Prelude.{ℕ, Bool, ◌+◌, ◌||◌, if◌then◌else◌, Option, Some, None, List, [], ◌∷◌, ◌++◌, length, take, drop, codes, decimal}
use Rattle.std.specs.List.{insert, position, position_or_len, slice_set, slice_index_or}
use Rattle.std.specs.Str.{bytes_eq}
use Rattle.t1_parts.specs.declared.item.Item.{Item}
use Rattle.t1_parts.specs.declared.item.Item.TheVariants.{Plain, Section, Subr, Glyph}
use Rattle.t1_text.specs.Tokens.{places_from}
pub use Rattle.t1_parts.specs.LenIV.{says_lead}
use Rattle.t1_parts.specs.Sections.{is_subrs_line, is_glyphs_line}

-- profile, tokens: the first token with its place
abbrev pub first_place : List (ℕ × List ℕ) → Option (ℕ × List ℕ)
first_place [] = None
first_place (t ∷ ts) = Some t

-- profile, tokens: the token after the first token of this text, with its place
abbrev pub place_after : List ℕ → List (ℕ × List ℕ) → Option (ℕ × List ℕ)
place_after key [] = None
place_after key (t ∷ ts) = if bytes_eq t.1 key then first_place ts else place_after key ts

-- profile, edits: a line with this text in the place of one of its tokens
abbrev pub with_token : List ℕ → List ℕ → Option (ℕ × List ℕ) → List ℕ
with_token l text None = l
with_token l text (Some t) = take t.0 l ++ (text ++ drop (t.0 + length t.1) l)

-- profile, edits: the token after the first `/lenIV` of a line becomes the number in decimal; the rest of the line stays
unfoldable pub line_with_lead : ℕ → List ℕ → List ℕ
line_with_lead n l = with_token l (decimal n) (place_after (codes "/lenIV") (places_from 0 l))

-- Type 1 Font Format, lenIV: the line of a new lenIV
abbrev pub lead_line : ℕ → List ℕ
lead_line n = codes "/lenIV " ++ (decimal n ++ codes " def")

-- profile, sections: whether an item is a section line
abbrev pub is_section_line : Item → Bool
is_section_line i = is_subrs_line i || is_glyphs_line i

-- profile, private part: the bytes of a plain line
abbrev pub line_of : Item → List ℕ
line_of (Plain l) = l
line_of (Section before n after) = []
line_of (Subr n ws closing) = []
line_of (Glyph g ws closing) = []

-- profile, private part: the bytes of the plain line at a place
abbrev pub line_at : ℕ → List Item → List ℕ
line_at at items = line_of (slice_index_or items at (Plain []))

-- profile, edits: the items with lenIV put into the plain line at a place, or into a new line directly before the first
-- section line
abbrev pub lead_put : ℕ → List Item → Option ℕ → List Item
lead_put n items (Some at) = slice_set items at (Plain (line_with_lead n (line_at at items)))
lead_put n items None = insert items (position_or_len is_section_line items) (Plain (lead_line n))

-- profile, edits: lenIV stands on the first plain line with a token `/lenIV`
unfoldable pub items_with_lead : ℕ → List Item → List Item
items_with_lead n items = lead_put n items (position says_lead items)
