-- Lists of keys with the same members.
use Rattle.std.specs.Prelude.{◌≡◌, ℕ, List}
use Rattle.std.specs.List.{list_any}
use Rattle.t1_parts.specs.SourceParts.{SourceParts}
use Rattle.t1_run.specs.Run.{Key}
use Rattle.t1_run.specs.RunKeys.{key_eq}
use Rattle.t1_cache.specs.Edited.{is_stale, stale, IsEditedAt}

-- word: each key is among both or among neither
abbrev pub HaveSameKeys : List Key → List Key → Type 0
HaveSameKeys ks ls = (k : Key) → list_any (key_eq k) ks ≡ list_any (key_eq k) ls

-- word: edits make the same glyphs stale in whatever order, and however often, they name their entries
abbrev pub SameStaleLaw : Type 0
SameStaleLaw = (ks ls : List Key) → HaveSameKeys ks ls → (s : SourceParts) (g : List ℕ) → is_stale s ks g ≡ is_stale s ls g

-- word: the stale glyphs of the edited source are the same too, in its order
abbrev pub SameStaleGlyphsLaw : Type 0
SameStaleGlyphsLaw = (ks ls : List Key) → HaveSameKeys ks ls → (old new : SourceParts) → stale old ks new ≡ stale old ls new

-- word: a source that is another one, edited at some keys, is so at other keys with the same members
abbrev pub SameEditedLaw : Type 0
SameEditedLaw = (ks ls : List Key) → HaveSameKeys ks ls → (old new : SourceParts) → IsEditedAt ks old new → IsEditedAt ls old new
