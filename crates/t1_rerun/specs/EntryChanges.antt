-- What an edit changes of the bodies of a source.
use Rattle.std.specs.Prelude.{◌≡◌, ℕ, ℤ, pos, negsuc, Bool, false, nat_le, if◌then◌else◌, List, Option, Some, None, Result, Ok}
use Rattle.std.specs.List.{AllByRecursion}
use Rattle.std.specs.Option.{option_to_list}
use Rattle.t1_frac.specs.declared.fault.Fault.{Fault}
use Rattle.t1_frac.specs.declared.fault.Place.{Place}
use Rattle.t1_frac.specs.declared.fault.Place.TheVariants as places
use Rattle.t1_frac.specs.Outcome.{reported_at, ◌>>=◌}
use Rattle.t1_code.specs.declared.command.Command.{Command}
use Rattle.t1_code.specs.Words.{commands}
use Rattle.t1_parts.specs.SourceParts.{SourceParts}
use Rattle.t1_source.specs.declared.edit.Edit.{Edit}
use Rattle.t1_source.specs.declared.edit.Edit.TheVariants.{ReplaceGlyph, AddGlyph, RemoveGlyph, ReplaceSubr, AddSubr, RemoveSubr}
use Rattle.t1_pairs.specs.declared.pairs.Pair.{Pair}
use Rattle.t1_source.specs.Editing.{body_words, edited}
use Rattle.t1_source.specs.WellFormed.{IsWellFormed}
use Rattle.t1_run.specs.Run.{Key, Subr, Glyph}
use Rattle.t1_font.specs.Bodies.{bodies_check}
use Rattle.t1_cache.specs.Edited.{IsEditedAt}
use Rattle.t1_cache.specs.EditKeys.{named}
use Rattle.t1_font.specs.OwnedKeys.{key_of}
use Rattle.t1_rerun.specs.declared.entry_change.EntryChange.{EntryChange}
use Rattle.t1_rerun.specs.Right.{IsInOrder}
use Rattle.t1_rerun.specs.Settled.{changed_keys, was_moved, HasBody}

-- word: the number of a Subr, where it has 16 bits
abbrev pub number_within : ℤ → Option ℕ
number_within (pos n) = if nat_le n 65535 then Some n else None
number_within (negsuc n) = None

-- word: a Subr or a glyph, and its body after an edit; none where it is removed. No edit alone moves a glyph
pub record KeyChange : Type 0 where
  pub key : Key
  pub body : Option (List Command)
  pub moved : Bool

-- word: a change, with the key of its entry
abbrev pub key_change : EntryChange → KeyChange
key_change change = record { key = key_of change.named; body = change.body; moved = change.moved }

-- word: a Subr or a glyph gets the commands of words, or these have their fault at its place
abbrev pub put_key : Key → Place → List (List ℕ) → Result (Option KeyChange) Fault
put_key key place words = reported_at place (commands words) >>= λ body. Ok (Some (record { key = key; body = Some body; moved = false }))

-- word: the same, of a Subr by its number; none has a number past 16 bits
abbrev pub put_number : Option ℕ → List (List ℕ) → Result (Option KeyChange) Fault
put_number None words = Ok None
put_number (Some n) words = put_key (Subr n) (places.Subr n) words

-- word: a Subr is removed, where its number has 16 bits
abbrev pub removed_number : Option ℕ → Option KeyChange
removed_number None = None
removed_number (Some n) = Some (record { key = Subr n; body = None; moved = false })

-- word, edits: the entry that an edit names, with its body after it, or the fault of its words
abbrev pub edit_change : Edit → Result (Option KeyChange) Fault
edit_change (ReplaceGlyph g body) = put_key (Glyph g) (places.Glyph g) (body_words body)
edit_change (AddGlyph g body) = put_key (Glyph g) (places.Glyph g) (body_words body)
edit_change (RemoveGlyph g) = Ok (Some (record { key = Glyph g; body = None; moved = false }))
edit_change (ReplaceSubr n body) = put_number (number_within n) (body_words body)
edit_change (AddSubr n body) = put_number (number_within n) (body_words body)
edit_change (RemoveSubr n) = Ok (removed_number (number_within n))
edit_change _ = Ok None

-- word: a source whose bodies have no fault, and what an edit makes of it
pub record IsMadeByEdit (edit : Edit) (old new : SourceParts) : Type 0 where
  pub pairs : List Pair
  pub made_pairs : List Pair
  pub compiled : bodies_check old.items ≡ Ok tt
  pub well : IsWellFormed old
  pub well_made : IsWellFormed new
  pub made : edited old pairs edit ≡ Ok (new, made_pairs)

-- word: the edited source differs at the entry of the change alone, where it has this body, and its bodies have no fault
pub record IsChanged (edit : Edit) (old new : SourceParts) (change : Option EntryChange) : Type 0 where
  pub keys : changed_keys (option_to_list change) ≡ named edit
  pub edited : IsEditedAt (changed_keys (option_to_list change)) old new
  pub bodies : AllByRecursion (HasBody new) (option_to_list change)
  pub unmoved : (g : List ℕ) → was_moved (option_to_list change) g ≡ false
  pub compiled : bodies_check new.items ≡ Ok tt
  pub order : IsInOrder (was_moved (option_to_list change)) old new
