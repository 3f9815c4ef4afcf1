-- What is ready to be kept of an edited source.
use Rattle.std.specs.Prelude.{◌≡◌, ℕ, false, List, None}
use Rattle.std.specs.List.{list_any}
use Rattle.t1_parts.specs.SourceParts.{SourceParts}
use Rattle.t1_run.specs.Run.{Key}
use Rattle.t1_run.specs.RunKeys.{key_eq}
use Rattle.t1_font.specs.Assembly.{file_check}
use Rattle.t1_charstrings.specs.declared.settling.ReadyCharstrings.{ReadyCharstrings}
use Rattle.t1_charstrings.specs.declared.settling.ReadyCharstrings.TheVariants as charstrings
use Rattle.t1_charstrings.specs.Kept.{charstring_at}
use Rattle.t1_charstrings.specs.Ready.{IsReadyLines}
use Rattle.t1_cache.specs.Edited.{stale}
use Rattle.t1_rerun.specs.declared.entry_change.EntryChange.{EntryChange}
use Rattle.t1_rerun.specs.Changing.{IsReadyFor}
use Rattle.t1_rerun.specs.Opened.{runs_where}
use Rattle.t1_rerun.specs.Settled.{changed_keys}
use Rattle.t1_held.specs.declared.held.Held.{Held}
use Rattle.t1_held.specs.declared.held.ReadyHeld.{ReadyHeld}

-- word: each glyph that edits at these keys make stale is run once; none, where a body or the file has a fault
abbrev pub commit_runs : List Key → SourceParts → SourceParts → ℕ
commit_runs ks old new = runs_where (file_check new) (stale old ks new)

-- word: the edited source has no fault, each glyph that edits at these keys make stale was run after this count, and
-- all that is to be kept of the edited source is there
pub record IsReadyHeld (count : ℕ) (ks : List Key) (s made : SourceParts) (h : Held) (ready : ReadyHeld) : Type 0 where
  pub changes : List EntryChange
  pub same : (k : Key) → list_any (key_eq k) (changed_keys changes) ≡ list_any (key_eq k) ks
  pub records : IsReadyFor count changes s made h.records ready.records
  pub lines : IsReadyLines made h.charstrings ready.lines

-- word: charstrings were encrypted at these keys, and at no other
abbrev pub EncryptsAt : List Key → ReadyCharstrings → Type 0
EncryptsAt ks (charstrings.Edited entries) = (k : Key) → list_any (key_eq k) ks ≡ false → charstring_at entries.fresh k ≡ None
EncryptsAt ks (charstrings.All all) = ⊥

-- word: there are such edits and such sources
pub record MayBeHeld (h : Held) (ready : ReadyHeld) : Type 0 where
  pub count : ℕ
  pub keys : List Key
  pub source : SourceParts
  pub made : SourceParts
  pub is : IsReadyHeld count keys source made h ready
