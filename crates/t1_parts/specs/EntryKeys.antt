-- Entries by their keys.
use Rattle.std.specs.Prelude.{◌≡◌, ◌≤◌, ◌<◌, ◌+◌, ℕ, Bool, true, false, ◌||◌, List, length, drop}
use Rattle.std.specs.List.{list_any, slice_index_or}
use Rattle.t1_parts.specs.declared.entry_key.EntryKey.{EntryKey}
use Rattle.t1_parts.specs.declared.entry_key.EntryKey.TheVariants.{Number, Name}
use Rattle.t1_parts.specs.declared.entry_key.ItemKind.{ItemKind}
use Rattle.t1_parts.specs.declared.entry_key.ItemKind.TheVariants as kinds
use Rattle.t1_parts.specs.declared.item.Item.{Item}
use Rattle.t1_parts.specs.declared.item.Item.TheVariants.{Section, Subr}
use Rattle.t1_parts.specs.Counts.{is_glyph_entry}
use Rattle.t1_parts.specs.Entries.{is_subr, is_glyph}
use Rattle.t1_parts.specs.Sections.{is_subrs_line, is_glyphs_line}

-- word, entries: whether an item is the entry of a key: the Subr of that number, or the glyph of that name
abbrev pub is_entry_of : EntryKey → Item → Bool
is_entry_of (Number n) = is_subr n
is_entry_of (Name g) = is_glyph g.now

-- word, entries: the entry of a key stands at a place
abbrev pub IsEntryAt : EntryKey → List Item → ℕ → Type 0
IsEntryAt key items at = (at < length items) × ((d : Item) → is_entry_of key (slice_index_or items at d) ≡ true)

-- word, entries: whether an item is a Subr
abbrev pub is_any_subr : Item → Bool
is_any_subr (Subr n ws closing) = true
is_any_subr _ = false

-- word, sections: whether an item is a section line
abbrev pub is_section : Item → Bool
is_section (Section before n after) = true
is_section _ = false

-- word, sections: whether an item is of a kind: an entry or the section line of these, or any section line
abbrev pub is_of_kind : ItemKind → Item → Bool
is_of_kind kinds.Subrs = λ i. is_any_subr i || is_subrs_line i
is_of_kind kinds.Glyphs = λ i. is_glyph_entry i || is_glyphs_line i
is_of_kind kinds.Sections = is_section

-- word, sections: so many items stand through the last one that passes a test; none where no item does
abbrev pub IsThrough : (Item → Bool) → List Item → ℕ → Type 0
IsThrough test items n =
    (n ≤ length items)
    × (list_any test (drop n items) ≡ false)
    × ((m : ℕ) (d : Item) → n ≡ m + 1 → test (slice_index_or items m d) ≡ true)

-- word, sections: no section line stands from a place on
abbrev pub AreSectionsBefore : ℕ → List Item → Type 0
AreSectionsBefore n items = (n ≤ length items) × (list_any is_section (drop n items) ≡ false)
