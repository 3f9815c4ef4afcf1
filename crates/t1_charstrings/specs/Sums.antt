-- How long the private text is after an entry was put in the place of another, put in or taken out.
use Rattle.std.specs.Prelude.{◌≡◌, ◌+◌, ◌-◌, ◌^◌, ◌<◌, ◌≤◌, min, ℕ, Bool, true, false, List, [], ◌∷◌, ◌++◌, Option, decimal, length, flat_map}
use Rattle.std.specs.List.{insert, list_any, remove, slice_set, slice_index_or}
use Rattle.t1_frac.specs.Ascii.{line_feed}
use Rattle.t1_parts.specs.declared.item.Item.{Item}
use Rattle.t1_parts.specs.declared.item.Item.TheVariants.{Plain, Section}
use Rattle.t1_parts.specs.Counts.{raised}
use Rattle.t1_parts.specs.Entries.{is_glyph, is_subr}
use Rattle.t1_parts.specs.Operator.{operator}
use Rattle.t1_parts.specs.SourceParts.{SourceParts}
use Rattle.t1_source.specs.Editing.{with_items}
use Rattle.t1_source.specs.WellFormed.{IsWellFormed}
use Rattle.t1_run.specs.Run.{Key, Subr, Glyph}
use Rattle.t1_charstrings.specs.declared.entries.Charstrings.{Charstrings}
use Rattle.t1_charstrings.specs.Changed.{Sets}
use Rattle.t1_charstrings.specs.Entries.{KeptCharstring}
use Rattle.t1_charstrings.specs.Kept.{AreEncrypted}
use Rattle.t1_font.specs.Lengths.{IsPrivateLen}
use Rattle.t1_charstrings.specs.Lines.{kept_line, kept_lines_text}

-- word: whether an item is the entry of this key
abbrev pub has_key : Key → Item → Bool
has_key (Subr n) item = is_subr n item
has_key (Glyph g) item = is_glyph g item

-- word: the item at a place
abbrev pub item_at : List Item → ℕ → Item
item_at items at = slice_index_or items at (Plain [])

-- word: the line of a section, and nothing of another item
abbrev pub section_line : Item → List ℕ
section_line (Section before count after) = before ++ decimal count ++ after ++ line_feed ∷ []
section_line _ = []

-- word: the section lines
abbrev pub section_lines_text : List Item → List ℕ
section_lines_text items = flat_map section_line items

-- word: the length with another entry in the place of that of the key: its line's length more, and that of the old
-- line less
abbrev pub PutLenLaw : Type 0
PutLenLaw =
    (s : SourceParts) (key : Key) (at : ℕ) (item : Item) → IsWellFormed s → at < length s.items → has_key key (item_at s.items at) ≡ true
    → (old new : Charstrings) (entry : Option KeptCharstring) → Sets key entry old new → (operator : List ℕ)
    → length (kept_lines_text new operator (slice_set s.items at item)) + length (kept_line old operator (item_at s.items at))
    ≡ length (kept_lines_text old operator s.items) + length (kept_line new operator item)

-- word: the length with an entry more, whose key no other has: its line's length more
abbrev pub InsertLenLaw : Type 0
InsertLenLaw =
    (s : SourceParts) (key : Key) (at : ℕ) (item : Item) → at ≤ length s.items → list_any (has_key key) s.items ≡ false
    → (old new : Charstrings) (entry : Option KeptCharstring) → Sets key entry old new → (operator : List ℕ)
    → length (kept_lines_text new operator (insert s.items at item)) ≡ length (kept_lines_text old operator s.items) + length (kept_line new operator item)

-- word: the length without the entry of the key: that of its line less
abbrev pub RemoveLenLaw : Type 0
RemoveLenLaw =
    (s : SourceParts) (key : Key) (at : ℕ) → IsWellFormed s → at < length s.items → has_key key (item_at s.items at) ≡ true
    → (old new : Charstrings) (entry : Option KeptCharstring) → Sets key entry old new → (operator : List ℕ)
    → length (kept_lines_text new operator (remove s.items at)) + length (kept_line old operator (item_at s.items at)) ≡ length (kept_lines_text old operator s.items)

-- word: raised counts change the section lines alone
abbrev pub RaisedLenLaw : Type 0
RaisedLenLaw =
    (items : List Item) (c : Charstrings) (operator : List ℕ)
    → length (kept_lines_text c operator (raised items)) + length (section_lines_text items) ≡ length (kept_lines_text c operator items) + length (section_lines_text (raised items))

-- ---- of a source that was edited

-- word: the charstrings of a source and those of an edited one, which differ at one key
pub record AreEdited (key : Key) (entry : Option KeptCharstring) (s made : SourceParts) (old new : Charstrings) : Type 0 where
  pub well : IsWellFormed s
  pub well_made : IsWellFormed made
  pub kept : AreEncrypted s old
  pub kept_made : AreEncrypted made new
  pub sets : Sets key entry old new

-- word: an entry of the key is put in its place: the new line's length more, and the old one's less
abbrev pub PutSumLaw : Type 0
PutSumLaw =
    (key : Key) (entry : Option KeptCharstring) (s made : SourceParts) (old new : Charstrings) → AreEdited key entry s made old new
    → (at : ℕ) (item : Item) → at < length s.items → has_key key (item_at s.items at) ≡ true → has_key key item ≡ true → made ≡ with_items s (slice_set s.items at item)
    → (n m : ℕ) → IsPrivateLen s n → n < 2 ^ 64 - 1 → m + length (kept_line old (operator s) (item_at s.items at)) ≡ n + length (kept_line new (operator s) item)
    → IsPrivateLen made (min m (2 ^ 64 - 1))

-- word: an entry whose key no other has is put in: its line's length more, and what the raised counts add
abbrev pub InsertSumLaw : Type 0
InsertSumLaw =
    (key : Key) (entry : Option KeptCharstring) (s made : SourceParts) (old new : Charstrings) → AreEdited key entry s made old new
    → (at : ℕ) (item : Item) → at ≤ length s.items → list_any (has_key key) s.items ≡ false → has_key key item ≡ true → made ≡ with_items s (insert s.items at item)
    → (n m : ℕ) → IsPrivateLen s n → n < 2 ^ 64 - 1 → m + length (section_lines_text s.items) ≡ n + length (kept_line new (operator s) item) + length (section_lines_text made.items)
    → IsPrivateLen made (min m (2 ^ 64 - 1))

-- word: the entry of the key is taken out: its line's length less
abbrev pub RemoveSumLaw : Type 0
RemoveSumLaw =
    (key : Key) (entry : Option KeptCharstring) (s made : SourceParts) (old new : Charstrings) → AreEdited key entry s made old new
    → (at : ℕ) → at < length s.items → has_key key (item_at s.items at) ≡ true → made ≡ with_items s (remove s.items at)
    → (n m : ℕ) → IsPrivateLen s n → n < 2 ^ 64 - 1 → m + length (kept_line old (operator s) (item_at s.items at)) ≡ n
    → IsPrivateLen made (min m (2 ^ 64 - 1))
