-- How long the private text is beside its charstrings, and what edits make of that.
use Rattle.std.specs.Prelude.{◌≡◌, ◌+◌, ◌-◌, ◌^◌, ◌<◌, ◌≤◌, ℕ, List, [], ◌++◌, map, Option, None, Some, SomeIff, length, sum_by}
use Rattle.std.specs.declared.alloc.Global.{Global}
use Rattle.std.specs.declared.vec.Vec.{Vec}
use Rattle.t1_code.specs.Pfb.{closing_text}
use Rattle.t1_parts.specs.declared.item.Item.{Item}
use Rattle.t1_parts.specs.declared.item.Item.TheVariants as items
use Rattle.t1_parts.specs.SourceParts.{SourceParts}
use Rattle.t1_run.specs.Run.{Key, Subr, Glyph}
use Rattle.t1_font.specs.OwnedKeys.{key_of}
use Rattle.t1_charstrings.specs.declared.edited.EditedEntries.{EditedEntries}
use Rattle.t1_charstrings.specs.declared.entries.Charstrings.{Charstrings}
use Rattle.t1_charstrings.specs.Entries.{KeptCharstring}
use Rattle.t1_charstrings.specs.Lines.{kept_entry_line}
use Rattle.t1_charstrings.specs.Sums.{item_at}

-- ---- beside the charstrings

-- word: how long the line of an item is beside its charstring: a plain line, or the closing text of an entry with the space
-- before it; a section line has its own sum
abbrev pub beside : Item → ℕ
beside (items.Plain line) = length line + 1
beside (items.Section before count after) = 0
beside (items.Subr number words closing) = length (closing_text closing)
beside (items.Glyph name words closing) = length (closing_text closing)

-- word: how long the lines of the items are beside their charstrings
abbrev pub all_beside : List Item → ℕ
all_beside items = sum_by beside items

-- word: the same of the item that a change takes out; 0 where it takes none out
abbrev pub taken_beside : List Item → Option ℕ → ℕ
taken_beside items (Some at) = beside (item_at items at)
taken_beside items None = 0

-- word: the same of the item that a change puts in; 0 where it puts none in
abbrev pub put_beside : Option Item → ℕ
put_beside (Some item) = beside item
put_beside None = 0

-- word, edits: the length of the private text of a source, with what edits of it changed beside the charstrings; nothing is
-- said where it was given up
abbrev pub IsKeptBeside : SourceParts → ℕ → SourceParts → Option ℕ → Type 0
IsKeptBeside s n made None = Unit {0}
IsKeptBeside s n made (Some m) = m + all_beside s.items ≡ n + all_beside made.items

-- word, edits: a length that is kept, after a change that takes out and puts in so many bytes: it is given up where it would
-- be below 0 or past 2^64 - 1, and only there
abbrev pub IsCountedAfter : Option ℕ → ℕ → ℕ → Option ℕ → Type 0
IsCountedAfter None taken put result = result ≡ None
IsCountedAfter (Some len) taken put result = SomeIff result ((taken ≤ len) × (len - taken + put < 2 ^ 64)) (len - taken + put)

-- ---- the charstrings

-- word: how long the line of an entry is without its closing text, by what is kept at each key; 0 where nothing is
abbrev pub bare_length : (Key → Option KeptCharstring) → List ℕ → Key → ℕ
bare_length at operator k = length (kept_entry_line operator [] (at k))

-- word: the keys of Subrs that are kept
abbrev pub subr_keys : List (ℕ × KeptCharstring) → List Key
subr_keys entries = map (λ e. Subr e.0) entries

-- word: the keys of glyphs that are kept
abbrev pub glyph_keys : List (Vec ℕ Global × KeptCharstring) → List Key
glyph_keys entries = map (λ e. Glyph e.0.items) entries

-- word: the keys of all that is kept
abbrev pub kept_keys : Charstrings → List Key
kept_keys c = subr_keys c.subrs.entries ++ glyph_keys c.glyphs.entries

-- word: the keys of the entries that edits name
abbrev pub edited_keys : EditedEntries → List Key
edited_keys entries = kept_keys entries.fresh ++ map key_of entries.gone.items
