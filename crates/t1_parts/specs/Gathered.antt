-- Keys that are kept beside a list of items.
use Rattle.std.specs.Prelude.{◌≡◌, ℕ, Option, List, [], ◌∷◌, ◌++◌}
use Rattle.std.specs.Borrow.{Bor}
use Rattle.std.specs.List.{list_any}
use Rattle.std.specs.Ordering.{nat_cmp, is_eq}
use Rattle.std.specs.Str.{bytes_eq}
use Rattle.t1_parts.specs.Entries.{NumberedItem, has_numbered, is_subr, is_glyph}
use Rattle.t1_parts.specs.EntryNames.{glyph_name}
use Rattle.t1_parts.specs.declared.item.Item.{Item}

-- word: the numbers are those of the Subrs among the items
abbrev pub HasNumbers : List ℕ → List NumberedItem → Type 0
HasNumbers numbers items = (n : ℕ) → list_any (λ k. is_eq (nat_cmp n k)) numbers ≡ has_numbered (is_subr n) items

-- word: the names are those of the glyphs among the items
abbrev pub AreGlyphsNames : List (Bor (List ℕ)) → List NumberedItem → Type 0
AreGlyphsNames names items = (g : List ℕ) → list_any (λ k. bytes_eq g k.now) names ≡ has_numbered (is_glyph g) items

-- word: the numbers become those of the items and a further one
abbrev pub KeepsNumbers : List ℕ → List ℕ → Item → Type 0
KeepsNumbers old new item = (items : List NumberedItem) (n : ℕ) → HasNumbers old items → HasNumbers new (items ++ (n, item) ∷ [])

-- word: the names become those of the items and a further one, of which this is the name, if it has one
abbrev pub KeepsNames : List (Bor (List ℕ)) → List (Bor (List ℕ)) → Option (List ℕ) → Type 0
KeepsNames old new name =
    (items : List NumberedItem) (n : ℕ) (item : Item) → name ≡ glyph_name item → AreGlyphsNames old items → AreGlyphsNames new (items ++ (n, item) ∷ [])
