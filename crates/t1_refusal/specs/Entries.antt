-- The words of a source's entries.
use Rattle.std.specs.Prelude.{ℕ, List, [], Option, Some, None}
use Rattle.std.specs.List.{find}
use Rattle.t1_frac.specs.declared.fault.Place.{Place}
use Rattle.t1_frac.specs.declared.fault.Place.TheVariants as places
use Rattle.t1_parts.specs.declared.item.Item.{Item}
use Rattle.t1_parts.specs.declared.item.Item.TheVariants.{Plain, Section, Subr, Glyph}
use Rattle.t1_parts.specs.Entries.{is_glyph, is_subr}

-- profile, queries: the words of an entry; no other item has any
abbrev pub entry_words : Item → List (List ℕ)
entry_words (Plain l) = []
entry_words (Section before n after) = []
entry_words (Subr n ws closing) = ws
entry_words (Glyph g ws closing) = ws

-- profile, queries: the first glyph of this name
abbrev pub glyph_named : List ℕ → List Item → Option Item
glyph_named name items = find (is_glyph name) items

-- profile, queries: the first Subr of this number
abbrev pub subr_of : ℕ → List Item → Option Item
subr_of number items = find (is_subr number) items

-- profile, queries: the words of an entry, where there is one
abbrev pub words_of_found : Option Item → List (List ℕ)
words_of_found None = []
words_of_found (Some item) = entry_words item

-- profile, refusals: the words of the entry at a place; none where the place is no entry's
abbrev pub words_at_place : List Item → Place → List (List ℕ)
words_at_place items (places.Subr number) = words_of_found (subr_of number items)
words_at_place items (places.Glyph name) = words_of_found (glyph_named name items)
words_at_place items place = []
