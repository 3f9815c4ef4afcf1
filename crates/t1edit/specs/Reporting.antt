-- What is written of files in turn, on standard output.
use Rattle.std.specs.Prelude.{◌≡◌, ◌⊎◌, ℕ, Bool, false, ◌&&◌, if◌then◌else◌, max, List, [], ◌∷◌, Option, Result, Ok, Err}
use Rattle.std.specs.Borrow.{Bor}
use Rattle.t1_code.specs.Counted.{Tally, WritesAll, WritesFront}
use Rattle.t1_session.specs.declared.error.ServeError.{ServeError}
use Rattle.t1_session.specs.declared.error.ServeError.TheVariants.{Load, Read, Write, Memory}
use Rattle.t1edit.specs.Reading.{TellsUnread}
use Rattle.t1edit.specs.Several.{AreWritten, answer_lines, status_of_answer}
use Rattle.t1edit.specs.Sources.{OnSource, source_in}
use Rattle.t1edit.specs.declared.file_error.FileError.{FileError}
use Rattle.t1edit.specs.declared.source_file.Kind.{Kind}
use Rattle.t1edit.specs.declared.unread.Unread.{Unread}

-- profile: a text went out, and it is said whether it finds something; a beginning of it, and then a write failed; or
-- nothing, since memory ran out
abbrev pub PutsReport : {W : Type 0} → (W → Option (List ℕ)) → List ℕ → Bool → Tally W → Tally W → Result Bool ServeError → Type 0
PutsReport contents text finds old new (Ok found) = WritesAll contents old new text × (found ≡ finds)
PutsReport contents text finds old new (Err Write) = WritesFront contents old new text
PutsReport contents text finds old new (Err Memory) = new ≡ old
PutsReport contents text finds old new (Err Read) = ⊥
PutsReport contents text finds old new (Err (Load fault)) = ⊥

-- profile: why a file can't be read, or what is told of its source, or why a font has none
abbrev pub ReportsPath : {F W : Type 0} → (F → List ℕ → List ℕ → Type 0) → (F → List ℕ → Unread → Type 0) → F → Kind → (W → Option (List ℕ)) → (List ℕ → List ℕ) → (List ℕ → Bool) → List ℕ → Tally W → Tally W → Result Bool FileError → Type 0
ReportsPath holds fails files kind contents text finds path old new answer =
    ((unread : Unread) × (told : FileError) × fails files path unread × TellsUnread unread told × (answer ≡ Err told) × (new ≡ old))
    ⊎ ((file : List ℕ) × holds files path file × OnSource (source_in kind file) old new (λ source. PutsReport contents (text source) (finds source) old new) answer)

-- profile: whether something was found in a file
abbrev pub has_found : Result Bool FileError → Bool
has_found (Ok found) = found
has_found (Err error) = false

-- profile: what is told of a file on standard error
abbrev pub told_of : Result Bool FileError → Result (Unit {0}) FileError
told_of (Ok found) = Ok tt
told_of (Err error) = Err error

-- profile: a report on a file was written, or the line of an error, and the status is 1 where something was found
-- and nothing is wanted
pub record ReportsFile {F W E : Type 0} (holds : F → List ℕ → List ℕ → Type 0) (fails : F → List ℕ → Unread → Type 0) (files : F) (kind : Kind) (is_strict : Bool) (text : List ℕ → List ℕ → List ℕ) (finds : List ℕ → Bool) (path : List ℕ) (contents : W → Option (List ℕ)) (old new : Tally W) (line_contents : E → Option (List ℕ)) (old_lines new_lines : Tally E) (status : ℕ) : Type 0 where
  pub answer : Result Bool FileError
  pub reported : ReportsPath holds fails files kind contents (text path) finds path old new answer
  pub lines : AreWritten line_contents old_lines new_lines (answer_lines path (told_of answer))
  pub ends : status ≡ (if is_strict && has_found answer then 1 else status_of_answer (told_of answer))

-- profile: what becomes of one file, by what was written before it and after it, and its status
abbrev pub ReportsEach : {F W E : Type 0} → (F → List ℕ → List ℕ → Type 0) → (F → List ℕ → Unread → Type 0) → F → Kind → Bool → (List ℕ → List ℕ → List ℕ) → (List ℕ → Bool) → (W → Option (List ℕ)) → (E → Option (List ℕ)) → List ℕ → Tally W × Tally E → Tally W × Tally E → ℕ → Type 0
ReportsEach holds fails files kind is_strict text finds contents line_contents path old new status =
    ReportsFile holds fails files kind is_strict text finds path contents old.0 new.0 line_contents old.1 new.1 status

-- profile: so it is with each of some files, in their order, whatever becomes of those before, and the status is the worst
abbrev pub InOrder : {S : Type 0} → (List ℕ → S → S → ℕ → Type 0) → List (Bor (List ℕ)) → S → S → ℕ → Type 0
InOrder each [] old new status = (new ≡ old) × (status ≡ 0)
InOrder {S} each (path ∷ paths) old new status =
    (between : S) × (first : ℕ) × (rest : ℕ) × each path.now old between first × InOrder each paths between new rest × (status ≡ max first rest)
