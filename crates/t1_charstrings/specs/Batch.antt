-- What many edits at once make of the charstrings.
use Rattle.std.specs.Prelude.{◌≡◌, ◌&&◌, if◌then◌else◌, ℕ, Bool, List, [], ◌∷◌, ◌++◌, map, Option, None, Ok, decimal, false, is_none, is_some}
use Rattle.std.specs.List.{flat_map, list_any}
use Rattle.std.specs.Option.{option_map, option_or}
use Rattle.t1_frac.specs.Ascii.{line_feed}
use Rattle.t1_parts.specs.declared.item.Item.{Item}
use Rattle.t1_parts.specs.declared.item.Item.TheVariants as items
use Rattle.t1_parts.specs.LenIV.{lead}
use Rattle.t1_parts.specs.SourceParts.{SourceParts}
use Rattle.t1_source.specs.WellFormed.{IsWellFormed}
use Rattle.t1_run.specs.Run.{Key, Subr, Glyph}
use Rattle.t1_run.specs.RunKeys.{body_at, key_eq}
use Rattle.t1_run.specs.Touched.{SameBut}
use Rattle.t1_font.specs.declared.owned_key.OwnedKey.{OwnedKey}
use Rattle.t1_font.specs.Bodies.{bodies, bodies_check}
use Rattle.t1_font.specs.OwnedKeys.{key_of}
use Rattle.t1_charstrings.specs.declared.edited.EditedEntries.{EditedEntries}
use Rattle.t1_charstrings.specs.declared.entries.Charstrings.{Charstrings}
use Rattle.t1_charstrings.specs.Entries.{KeptCharstring, encrypted}
use Rattle.t1_charstrings.specs.Kept.{AreEncrypted, charstring_at}
use Rattle.t1_charstrings.specs.Lines.{kept_entry_line}

-- word: what fresh charstrings keep at a key, or else what the old ones do
abbrev pub fresh_over : Charstrings → Charstrings → Key → Option KeptCharstring
fresh_over fresh old k = option_or (charstring_at fresh k) (charstring_at old k)

-- Type 1 Font Format, Chapter 2: the line of an item of the private part, by what is kept at each key
abbrev pub item_line_by : (Key → Option KeptCharstring) → List ℕ → Item → List ℕ
item_line_by at operator (items.Plain line) = line ++ line_feed ∷ []
item_line_by at operator (items.Section before count after) = before ++ decimal count ++ after ++ line_feed ∷ []
item_line_by at operator (items.Subr number words closing) = kept_entry_line operator closing (at (Subr number))
item_line_by at operator (items.Glyph name words closing) = kept_entry_line operator closing (at (Glyph name))

-- word: the lines of the items, one after another
abbrev pub text_by : (Key → Option KeptCharstring) → List ℕ → List Item → List ℕ
text_by at operator items = flat_map (item_line_by at operator) items

-- word: whether the charstring of an item's entry is kept
abbrev pub has_line : Charstrings → Item → Bool
has_line c (items.Subr number words closing) = is_some (charstring_at c (Subr number))
has_line c (items.Glyph name words closing) = is_some (charstring_at c (Glyph name))
has_line c item = false

-- ---- edits

-- word: these are the charstrings of a source, and another source without a fault of its bodies differs from it in entries
-- at these keys alone
pub record IsEditOf (keys : List Key) (s made : SourceParts) (c : Charstrings) : Type 0 where
  pub kept : AreEncrypted s c
  pub well : IsWellFormed made
  pub sound : bodies_check made.items ≡ Ok tt
  pub same : SameBut keys (bodies s.items) (bodies made.items)

-- word: the other source says the same lenIV too
abbrev pub IsBatchOf : List Key → SourceParts → SourceParts → Charstrings → Type 0
IsBatchOf keys s made c = IsEditOf keys s made c × (lead made ≡ lead s)

-- word: the bodies that a source has at these keys are kept, encrypted with so many leading bytes, and nothing else
abbrev pub AreFresh : ℕ → List Key → SourceParts → Charstrings → Type 0
AreFresh front keys made fresh =
    (k : Key) → charstring_at fresh k ≡ (if list_any (key_eq k) keys then option_map (encrypted front k) (body_at (bodies made.items) k) else None)

-- word: whether the entry of a key is among those that are gone
abbrev pub is_gone : List OwnedKey → Key → Bool
is_gone gone k = list_any (λ g. key_eq k (key_of g)) gone

-- word: those of these keys at which a source has no body
abbrev pub AreGone : List Key → SourceParts → List OwnedKey → Type 0
AreGone keys made gone = (k : Key) → is_gone gone k ≡ (list_any (key_eq k) keys && is_none (body_at (bodies made.items) k))

-- word: each of these keys stands once among them
abbrev pub AreOnce : List Key → Type 0
AreOnce [] = Unit {0}
AreOnce (k ∷ ks) = (list_any (key_eq k) ks ≡ false) × AreOnce ks

-- word: one source was made of the other by edits that name some entries, and these are the charstrings of those that were
-- replaced or added, and those that were removed, each named once
pub record AreEdits (s made : SourceParts) (c : Charstrings) (entries : EditedEntries) : Type 0 where
  pub keys : List Key
  pub edit : IsEditOf keys s made c
  pub fresh : AreFresh (lead s) keys made entries.fresh
  pub gone : AreGone keys made entries.gone.items
  pub once : AreOnce (map key_of entries.gone.items)
