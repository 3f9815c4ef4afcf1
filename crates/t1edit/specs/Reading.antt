-- How reading a file can fail, and how that is told.
use Rattle.std.specs.Prelude.{◌≡◌, ℕ, List, codes}
use Rattle.std.specs.IoError.{error_kind}
use Rattle.std.specs.declared.io.ErrorKind.{ErrorKind}
use Rattle.std.specs.declared.io.ErrorKind.TheVariants.{NotFound, PermissionDenied, IsADirectory}
use Rattle.t1_session.specs.declared.error.ServeError.{ServeError}
use Rattle.t1_session.specs.declared.error.ServeError.TheVariants as errors
use Rattle.t1edit.specs.declared.file_error.FileError.{FileError}
use Rattle.t1edit.specs.declared.file_error.FileError.TheVariants.{Served, Unread as UnreadFile, Font}
use Rattle.t1edit.specs.declared.unread.Unread.{Unread}
use Rattle.t1edit.specs.declared.unread.Unread.TheVariants as unread

-- profile, exit statuses: a read failed, or memory ran out
abbrev pub FailsToRead : ServeError → Type 0
FailsToRead errors.Read = Unit {0}
FailsToRead errors.Memory = Unit {0}
FailsToRead (errors.Load fault) = ⊥
FailsToRead errors.Write = ⊥

-- profile, exit statuses: the same without its reason
abbrev pub error_of : Unread → ServeError
error_of (unread.Refused error) = errors.Read
error_of unread.Memory = errors.Memory

-- profile, exit statuses: the reason in words; where it isn't one of these, the words are the system's
pub record IsReason (kind : ErrorKind) (words : List ℕ) : Type 0 where
  pub not_found : kind ≡ NotFound → words ≡ codes "not found"
  pub denied : kind ≡ PermissionDenied → words ≡ codes "permission denied"
  pub folder : kind ≡ IsADirectory → words ≡ codes "is a folder"

-- profile, exit statuses: a file that can't be read is told with the reason, unless memory ran out
abbrev pub TellsUnread : Unread → FileError → Type 0
TellsUnread unread.Memory told = told ≡ Served errors.Memory
TellsUnread (unread.Refused error) (UnreadFile words) = IsReason (error_kind error) words
TellsUnread (unread.Refused error) (Served errors.Memory) = Unit {0}
TellsUnread (unread.Refused error) (Served (errors.Load fault)) = ⊥
TellsUnread (unread.Refused error) (Served errors.Read) = ⊥
TellsUnread (unread.Refused error) (Served errors.Write) = ⊥
TellsUnread (unread.Refused error) (Font fault) = ⊥
