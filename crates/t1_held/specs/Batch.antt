-- The edits of an open batch, and the entries that they name.
use Rattle.std.specs.Prelude.{◌^◌, ℕ, Bool, true, false, List, map, Option, Some, None, Result, Ok, Err}
use Rattle.std.specs.List.{list_any}
use Rattle.t1_frac.specs.declared.fault.Code.{Code}
use Rattle.t1_code.specs.declared.command.Command.{Command}
use Rattle.t1_code.specs.Words.{commands}
use Rattle.t1_parts.specs.SourceParts.{SourceParts}
use Rattle.t1_source.specs.declared.edit.Edit.{Edit}
use Rattle.t1_source.specs.declared.edit.Edit.TheVariants.{ReplaceGlyph, AddGlyph, ReplaceSubr, AddSubr}
use Rattle.t1_source.specs.Editing.{body_words}
use Rattle.t1_pairs.specs.declared.pairs.Pair.{Pair}
use Rattle.t1_run.specs.Run.{Key}
use Rattle.t1_cache.specs.EditKeys.{named}
use Rattle.t1_font.specs.OwnedKeys.{key_of}
use Rattle.t1_held.specs.declared.batch.entries.AfterEdit.{AfterEdit}
use Rattle.t1_held.specs.declared.batch.entries.AfterEdit.TheVariants.{Body, Fault, Removed}
use Rattle.t1_held.specs.declared.batch.entries.EditedEntry.{EditedEntry}

-- profile, batches: an entry that an edit names, whether the edit added it, and what it is after it
pub record EntryEdit : Type 0 where
  pub key : Key
  pub added : Bool
  pub after : AfterEdit

-- profile, batches: the same, of an entry that a batch has noted
abbrev pub entry_edit : EditedEntry → EntryEdit
entry_edit e = record { key = key_of e.named; added = e.added; after = e.after }

-- word, batches: whether an edit adds an entry
abbrev pub adds : Edit → Bool
adds (AddGlyph g body) = true
adds (AddSubr n body) = true
adds _ = false

-- word, batches: an entry of these commands, or one whose words have a fault
abbrev pub after_commands : Result (List Command) Code → AfterEdit
after_commands (Ok body) = Body body
after_commands (Err code) = Fault

-- word, batches: what the entry that an edit names is after it
abbrev pub after_edit : Edit → AfterEdit
after_edit (ReplaceGlyph g body) = after_commands (commands (body_words body))
after_edit (AddGlyph g body) = after_commands (commands (body_words body))
after_edit (ReplaceSubr n body) = after_commands (commands (body_words body))
after_edit (AddSubr n body) = after_commands (commands (body_words body))
after_edit _ = Removed

-- word, batches: the body of an entry after an edit, where its words have no fault
abbrev pub body_of : AfterEdit → Option (List Command)
body_of (Body body) = Some body
body_of Fault = None
body_of Removed = None

-- word, batches: whether the words of an entry have a fault
abbrev pub is_fault : AfterEdit → Bool
is_fault (Body body) = false
is_fault Fault = true
is_fault Removed = false

-- word, batches: whether the words of an edit have a fault
abbrev pub has_fault : List EntryEdit → Bool
has_fault entries = list_any (λ e. is_fault e.after) entries

-- word, batches: the entry that an edit names; none where it edits slots, lenIV or pairs alone
abbrev pub edited_entries : Edit → List EntryEdit
edited_entries edit = map (λ key. record { key = key; added = adds edit; after = after_edit edit }) (named edit)

-- profile, batches: the keys of these entries
abbrev pub keys : List EntryEdit → List Key
keys entries = map (λ e. e.key) entries

-- profile, batches: the source and the pairs after the edits of a batch so far, and the keys of the entries that the edits name
pub record Draft : Type 0 where
  pub source : SourceParts
  pub pairs : List Pair
  pub keys : List Key

-- profile, batches: a draft, what became of the entries that its edits name, and the count of what they changed of the lines beside their
-- charstrings
pub record DraftedBatch : Type 0 where
  pub draft : Draft
  pub entries : List EntryEdit
  pub beside : Option ℕ

-- word, batches: where this count begins
abbrev pub count_begin : ℕ
count_begin = 2 ^ 63
