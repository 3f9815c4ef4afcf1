-- Edits of a source, and what they make of it.
use Rattle.std.specs.Prelude.{◌≡◌, ℕ, List, Option, None, Some, Ok, IfSome}
use Rattle.std.specs.List.{list_any, AllByRecursion}
use Rattle.t1_parts.specs.SourceParts.{SourceParts}
use Rattle.t1_source.specs.declared.edit.Edit.{Edit}
use Rattle.t1_source.specs.declared.editing.Change.{Change}
use Rattle.t1_pairs.specs.declared.pairs.Pair.{Pair}
use Rattle.t1_source.specs.Changes.{changed, IsFor, Suits}
use Rattle.t1_source.specs.EditedSource.{made_of}
use Rattle.t1_source.specs.Editing.{edited}
use Rattle.t1_source.specs.WellFormed.{IsWellFormed}
use Rattle.t1_run.specs.Run.{Key}
use Rattle.t1_run.specs.RunKeys.{key_eq}
use Rattle.t1_font.specs.Assembly.{file_check}
use Rattle.t1_font.specs.Bodies.{bodies_check}
use Rattle.t1_font.specs.Glyphs.{glyph_names}
use Rattle.t1_charstrings.specs.Beside.{IsKeptBeside}
use Rattle.t1_cache.specs.Edited.{IsEditedAt}
use Rattle.t1_rerun.specs.declared.entry_change.EntryChange.{EntryChange}
use Rattle.t1_rerun.specs.Changing.{AreChangesOf}
use Rattle.t1_rerun.specs.Settled.{changed_keys, AreDistinctKeys, HasBody}
use Rattle.t1_held.specs.declared.preparing.Edits.{Edits}
use Rattle.t1_held.specs.declared.held.Held.{Held}
use Rattle.t1_held.specs.Held.{IsHeld}

-- word, edits: an edit that keeps the edit rules, and the change of the source and its pairs that was prepared for it
pub record IsPreparedEdit (s : SourceParts) (k : List Pair) (edit : Edit) (change : Change) (h : Held) : Type 0 where
  pub held : IsHeld s h
  pub well : IsWellFormed s
  pub serves : Suits change s k
  pub made : edited s k edit ≡ Ok (changed change s k)

-- word, edits: what edits at these keys change: each entry once, with the body that it has after them; the bodies of the
-- edited source have no fault
pub record AreChanges (s made : SourceParts) (ks : List Key) (h : Held) (changes : List EntryChange) : Type 0 where
  pub same : (k : Key) → list_any (key_eq k) (changed_keys changes) ≡ list_any (key_eq k) ks
  pub edited : IsEditedAt (changed_keys changes) s made
  pub keys : AreDistinctKeys (changed_keys changes)
  pub bodies : AllByRecursion (HasBody made) changes
  pub compiled : bodies_check made.items ≡ Ok tt
  pub prepared : file_check made ≡ Ok tt → AreChangesOf changes s made h.records (glyph_names made.items)

-- word, edits: of a batch it is known how long the private text was, with what the batch changed beside its charstrings
abbrev pub IsKnownBeside : Option Change → SourceParts → ℕ → SourceParts → Option ℕ → Type 0
IsKnownBeside (Some change) s len made beside = Unit {0}
IsKnownBeside None s len made beside = IsWellFormed s × IsKeptBeside s len made beside

-- word, edits: edits at these keys keep the edit rules and make this source of one of which this is held
pub record AreRight (ks : List Key) (new : SourceParts) (h : Held) (edits : Edits) : Type 0 where
  pub held : IsHeld edits.source.now h
  pub well : IsWellFormed new
  pub made : made_of edits.made ≡ new
  pub source : IfSome edits.made.change (λ change. (edits.made.source ≡ edits.source.now) × IsFor change edits.source.now)
  pub changes : AreChanges edits.source.now new ks h edits.changes.items
  pub beside : IsKnownBeside edits.made.change edits.source.now h.private_len edits.made.source edits.beside

-- word, edits: there are such keys and such a source
abbrev pub MayBeRight : Held → Edits → Type 0
MayBeRight h edits = (ks : List Key) × ((made : SourceParts) × AreRight ks made h edits)
