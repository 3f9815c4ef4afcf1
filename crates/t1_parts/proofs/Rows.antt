-- Rows that the definitions compute.
use Rattle.std.specs.Prelude.{◌≡◌, [], ◌∷◌, Some, Ok, codes, refl}
use Rattle.t1_parts.specs.declared.item.Item.TheVariants.{Plain, Section, Glyph}
use Rattle.t1_parts.specs.Entries.{glyph_entry}
use Rattle.t1_parts.specs.Header.{escapes_blanked, before_balance, text_value}
use Rattle.t1_parts.specs.Private.{items_of, item_in_front, line_item}

-- the byte after a backslash counts for nothing, a further backslash too
escaped_row : escapes_blanked (92 ∷ 41 ∷ 92 ∷ 92 ∷ 40 ∷ 92 ∷ []) ≡ 92 ∷ 32 ∷ 92 ∷ 32 ∷ 40 ∷ 92 ∷ []
escaped_row = refl

-- Bold) def
first_row : before_balance (codes "Bold) def") ≡ 4
first_row = refl

-- (a) and (b)) def
nested_row : before_balance (codes "(a) and (b)) def") ≡ 11
nested_row = refl

-- \)b\\) def
escapes_row : before_balance (92 ∷ 41 ∷ 98 ∷ 92 ∷ 92 ∷ 41 ∷ codes " def") ≡ 5
escapes_row = refl

-- a text that doesn't end
open_row : before_balance (codes "a(b) def") ≡ 8
open_row = refl

value_row : text_value (codes "(a (b) c) readonly def") ≡ Some (codes "a (b) c")
value_row = refl

-- an entry takes its lines with it, of which none begins an item
items_row : items_of 4 (codes "/CharStrings 1 dict dup begin" ∷ codes "/space {" ∷ codes "0 250 hsbw endchar" ∷ codes "} ND" ∷ codes "end" ∷ [])
    ≡ Ok ((4, Section (codes "/CharStrings ") 1 (codes " dict dup begin"))
    ∷ (5, Glyph (codes "space") (codes "0" ∷ codes "250" ∷ codes "hsbw" ∷ codes "endchar" ∷ []) (codes "ND"))
    ∷ (8, Plain (codes "end"))
    ∷ [])
unfolding item_in_front glyph_entry line_item
items_row = refl
