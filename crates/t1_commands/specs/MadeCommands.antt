-- What a call that makes a command answers.
use Rattle.std.specs.Prelude.{Bool, true, false, Result, Ok, Err, ◌≡◌}
use Rattle.t1_source.specs.declared.edit.Edit.{Edit}
use Rattle.t1_source.specs.declared.edit.Edit.TheVariants.{RemoveSubr, Unencode, LenIv}
use Rattle.t1_commands.specs.declared.command.SessionCommand.{SessionCommand}
use Rattle.t1_commands.specs.declared.show.Show.TheVariants as shows
use Rattle.t1_commands.specs.declared.command.SessionCommand.TheVariants as commands

-- word, session commands: whether a command is an edit or a query, whose names and body are kept while it is performed
abbrev pub is_edit_or_query : SessionCommand → Bool
is_edit_or_query (commands.Edit edit) = true
is_edit_or_query (commands.Print print) = false
is_edit_or_query (commands.Show show) = true
is_edit_or_query commands.Begin = false
is_edit_or_query commands.Commit = false
is_edit_or_query commands.Abort = false
is_edit_or_query (commands.Broken rule) = false

-- word: whether a command holds bytes of its own
abbrev pub holds_bytes : SessionCommand → Bool
holds_bytes (commands.Edit (RemoveSubr n)) = false
holds_bytes (commands.Edit (Unencode code)) = false
holds_bytes (commands.Edit (LenIv n)) = false
holds_bytes (commands.Edit edit) = true
holds_bytes (commands.Show (shows.Subr n)) = false
holds_bytes (commands.Show shows.Encoding) = false
holds_bytes (commands.Show shows.Refusal) = false
holds_bytes (commands.Show show) = true
holds_bytes command = false

-- word, session commands: a call makes this command, or wants memory for an edit or a query
abbrev pub Makes : {E : Type 0} → Result SessionCommand E → SessionCommand → Type 0
Makes (Ok command) wanted = command ≡ wanted
Makes (Err e) wanted = (is_edit_or_query wanted ≡ true) × (holds_bytes wanted ≡ true)
