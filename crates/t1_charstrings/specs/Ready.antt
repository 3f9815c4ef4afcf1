-- What is ready to be kept of a source that is about to be edited.
use Rattle.std.specs.Prelude.{◌≡◌, ◌≤◌, ◌+◌, ◌-◌, ◌^◌, ◌∷◌, min, length, if◌then◌else◌, ℕ, None, Option, Some}
use Rattle.std.specs.Option.{option_or}
use Rattle.indexmap.specs.IndexMap.{spare}
use Rattle.t1_parts.specs.declared.item.Item.{Item}
use Rattle.t1_parts.specs.Counts.{glyphs_needed, subrs_needed}
use Rattle.t1_parts.specs.Operator.{operator}
use Rattle.t1_parts.specs.SourceParts.{SourceParts}
use Rattle.t1_run.specs.Run.{Key}
use Rattle.t1_charstrings.specs.declared.entries.Charstrings.{Charstrings}
use Rattle.t1_charstrings.specs.declared.raising.Needed.{Needed}
use Rattle.t1_charstrings.specs.declared.settling.ReadyCharstrings.{ReadyCharstrings}
use Rattle.t1_charstrings.specs.declared.settling.ReadyCharstrings.TheVariants as ready
use Rattle.t1_charstrings.specs.declared.settling.ReadyLines.{ReadyLines}
use Rattle.t1_charstrings.specs.Batch.{is_gone, item_line_by, fresh_over}
use Rattle.t1_charstrings.specs.Changed.{AreSameCharstrings}
use Rattle.t1_charstrings.specs.Kept.{AreEncrypted, charstring_at}
use Rattle.t1_font.specs.Lengths.{IsPrivateLen}
use Rattle.t1_charstrings.specs.Lines.{kept_line}
use Rattle.t1_charstrings.specs.Raising.{raised_text}
use Rattle.t1_charstrings.specs.Sums.{item_at, section_lines_text}

-- word: the charstrings before and after what is ready was put in its place
abbrev pub SettlesTo : ReadyCharstrings → Charstrings → Charstrings → Type 0
SettlesTo (ready.Edited entries) old new =
    (k : Key) → charstring_at new k ≡ option_or (charstring_at entries.fresh k) (if is_gone entries.gone.items k then None else charstring_at old k)
SettlesTo (ready.All charstrings) old new = AreSameCharstrings charstrings new

-- word: there is room for the charstrings that are to be put in
abbrev pub HasCharstringRoom : ReadyCharstrings → Charstrings → Type 0
HasCharstringRoom (ready.Edited entries) c = (length entries.fresh.subrs.entries ≤ spare c.subrs) × (length entries.fresh.glyphs.entries ≤ spare c.glyphs)
HasCharstringRoom (ready.All charstrings) c = Unit {0}

-- word: put in its place, it makes of these charstrings those of the edited source, whose private text is so long
pub record IsReadyLines (made : SourceParts) (c : Charstrings) (ready : ReadyLines) : Type 0 where
  pub room : HasCharstringRoom ready.charstrings c
  pub kept : (new : Charstrings) → SettlesTo ready.charstrings c new → AreEncrypted made new
  pub len : IsPrivateLen made ready.len

-- ---- the length of the private text after one edit

-- word: how long the line of the item at a place is, up to 2^64 - 1
abbrev pub old_len : Charstrings → SourceParts → ℕ → ℕ
old_len c s at = min (length (kept_line c (operator s) (item_at s.items at))) (2 ^ 64 - 1)

-- word: how long the line of an item is by fresh charstrings over the old ones, up to 2^64 - 1
abbrev pub new_len : Charstrings → Charstrings → SourceParts → Item → ℕ
new_len fresh c s item = min (length (item_line_by (fresh_over fresh c) (operator s) item)) (2 ^ 64 - 1)

-- word: how long the line of the item is that a change takes out, up to 2^64 - 1; 0 where it takes none out
abbrev pub taken_len : Charstrings → SourceParts → Option ℕ → ℕ
taken_len c s (Some at) = old_len c s at
taken_len c s None = 0

-- word: how long the line of the item is that a change puts in, up to 2^64 - 1; 0 where it puts none in
abbrev pub put_len : Charstrings → Charstrings → SourceParts → Option Item → ℕ
put_len fresh c s (Some item) = new_len fresh c s item
put_len fresh c s None = 0

-- word: how long the private text is after a change: what it takes out less, what it puts in more; and where more is needed
-- of the section lines, the raised ones in the place of the old ones
abbrev pub edited_len : ℕ → Charstrings → Charstrings → SourceParts → Option ℕ → Option Item → Option Needed → ℕ
edited_len n fresh c s taken put None = min ((n - taken_len c s taken) + put_len fresh c s put) (2 ^ 64 - 1)
edited_len n fresh c s taken put (Some needed) =
    min (min (((n - taken_len c s taken) - min (length (section_lines_text s.items)) (2 ^ 64 - 1)) + put_len fresh c s put) (2 ^ 64 - 1)
    + min (length (raised_text needed.subrs needed.glyphs s.items)) (2 ^ 64 - 1)) (2 ^ 64 - 1)

-- word: what the items need of the section lines after a change, where it puts in an item and takes none out; nothing more
-- than they have after another one
abbrev pub IsNeeded : Option ℕ → Option Item → SourceParts → Option Needed → Type 0
IsNeeded None (Some item) s (Some needed) = (needed.subrs ≡ subrs_needed (item ∷ s.items)) × (needed.glyphs ≡ glyphs_needed (item ∷ s.items))
IsNeeded None (Some item) s None = ⊥
IsNeeded None None s needed = needed ≡ None
IsNeeded (Some at) put s needed = needed ≡ None
