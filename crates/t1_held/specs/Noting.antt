-- What became of the entries that the edits of a batch name, by these edits alone.
use Rattle.std.specs.Prelude.{ℕ, Bool, false, nat_eq, if◌then◌else◌, List, [], ◌∷◌, ◌++◌, Option, Some, None, is_some, Result, Ok}
use Rattle.std.specs.Map.{lookup}
use Rattle.std.specs.Option.{option_to_list}
use Rattle.std.specs.Str.{bytes_eq}
use Rattle.std.specs.declared.alloc.Global.{Global}
use Rattle.std.specs.declared.vec.Vec.{Vec}
use Rattle.t1_frac.specs.declared.fault.Fault.{Fault}
use Rattle.t1_frac.specs.Outcome.{◌>>=◌}
use Rattle.t1_code.specs.declared.command.Command.{Command}
use Rattle.t1_parts.specs.declared.item.Item.{Item}
use Rattle.t1_parts.specs.declared.item.Item.TheVariants as items
use Rattle.t1_run.specs.Run.{Key, Subr, Glyph}
use Rattle.t1_run.specs.RunKeys.{key_eq}
use Rattle.t1_font.specs.Bodies.{body_check}
use Rattle.t1_font.specs.declared.owned_key.OwnedKey.{OwnedKey}
use Rattle.t1_font.specs.OwnedKeys.{key_of}
use Rattle.t1_rerun.specs.declared.entry_change.EntryChange.{EntryChange}
use Rattle.t1_rerun.specs.Steps.{entry_change}
use Rattle.t1_held.specs.Batch.{body_of}
use Rattle.t1_held.specs.declared.batch.entries.EditedEntry.{EditedEntry}
use Rattle.t1_held.specs.declared.batch.last_bodies.LastBodies.{LastBodies}

-- ---- the last body of each entry

-- word: whether an entry's body is kept, and then this body, where it has one
abbrev pub Kept : Type 0
Kept = Key → Option (Option (List Command))

-- word: what is kept of the Subr of this number
abbrev pub subr_body : List (ℕ × Option (List Command)) → ℕ → Option (Option (List Command))
subr_body entries n = lookup (nat_eq n) entries

-- word: what is kept of the glyph of this name
abbrev pub glyph_body : List (Vec ℕ Global × Option (List Command)) → List ℕ → Option (Option (List Command))
glyph_body entries g = lookup (λ name. bytes_eq g name.items) entries

-- word: what is kept of the entry of a key
abbrev pub kept_at : LastBodies → Kept
kept_at bodies (Subr n) = subr_body bodies.subrs.entries n
kept_at bodies (Glyph g) = glyph_body bodies.glyphs.entries g

-- word: nothing is kept
abbrev pub nothing_kept : Kept
nothing_kept k = None

-- word: an entry has this body now
abbrev pub with_body : Key → Option (List Command) → Kept → Kept
with_body key body m k = if key_eq k key then Some body else m k

-- word: of each entry that edits name the last body is kept
abbrev pub all_bodies : List EditedEntry → Kept → Kept
all_bodies [] m = m
all_bodies (e ∷ es) m = all_bodies es (with_body (key_of e.named) (body_of e.after) m)

-- word: one entry is kept no more
abbrev pub without_key : Key → Kept → Kept
without_key key m k = if key_eq key k then None else m k

-- ---- the first fault of the entries

-- word: whether an item is an entry that is kept
abbrev pub is_kept : Kept → Item → Bool
is_kept m (items.Subr n words closing) = is_some (m (Subr n))
is_kept m (items.Glyph g words closing) = is_some (m (Glyph g))
is_kept m _ = false

-- word: the fault of an item's body, where the item is an entry that is kept
abbrev pub kept_check : Kept → Item → Result (Unit {0}) Fault
kept_check m item = if is_kept m item then body_check item else Ok tt

-- word, batches: the first fault of the bodies of entries that are kept
abbrev pub kept_bodies_check : Kept → List Item → Result (Unit {0}) Fault
kept_bodies_check m [] = Ok tt
kept_bodies_check m (item ∷ items) = kept_check m item >>= λ _. kept_bodies_check m items

-- ---- the entries, by the edits that name them

-- word: the entries of the edits that add one
abbrev pub added_keys : List EditedEntry → List OwnedKey
added_keys [] = []
added_keys (e ∷ es) = (if e.added then e.named ∷ [] else []) ++ added_keys es

-- word: the entries of the other edits
abbrev pub other_keys : List EditedEntry → List OwnedKey
other_keys [] = []
other_keys (e ∷ es) = (if e.added then [] else e.named ∷ []) ++ other_keys es

-- ---- what became of them

-- word: an entry with what is kept of it
abbrev pub taken_at : Option (Option (List Command)) → OwnedKey → Bool → Option EntryChange
taken_at None named moved = None
taken_at (Some body) named moved = Some (entry_change named body moved)

-- word: those of the entries that are still kept, each once
abbrev pub all_taken : Kept → Bool → List OwnedKey → List EntryChange
all_taken m moved [] = []
all_taken m moved (d ∷ ds) = option_to_list (taken_at (m (key_of d)) d moved) ++ all_taken (without_key (key_of d) m) moved ds

-- word: these entries are kept no more
abbrev pub after_taken : List OwnedKey → Kept → Kept
after_taken [] m = m
after_taken (d ∷ ds) m = after_taken ds (without_key (key_of d) m)
