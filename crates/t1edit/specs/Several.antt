-- Several files, checked in turn.
use Rattle.std.specs.Prelude.{◌≡◌, ◌⊎◌, ◌++◌, ℕ, max, List, [], ◌∷◌, Option, Result, Ok, Err, codes}
use Rattle.std.specs.Borrow.{Bor}
use Rattle.t1_code.specs.Counted.{Tally}
use Rattle.t1edit.specs.Checking.{JudgesFile}
use Rattle.t1edit.specs.FileErrors.{file_error_text, status_of_file}
use Rattle.t1edit.specs.Reading.{error_of}
use Rattle.t1edit.specs.Sources.{source_in}
use Rattle.t1edit.specs.Status.{IsWritten, line_with}
use Rattle.t1edit.specs.declared.file_error.FileError.{FileError}
use Rattle.t1edit.specs.declared.file_error.FileError.TheVariants.{Served}
use Rattle.t1edit.specs.declared.source_file.Kind.{Kind}
use Rattle.t1edit.specs.declared.unread.Unread.{Unread}

-- profile: what becomes of a file: why it can't be read, or what judging its source with the kerning answers
abbrev pub Becomes : {F : Type 0} → (F → List ℕ → List ℕ → Type 0) → (F → List ℕ → Unread → Type 0) → F → Kind → List ℕ → List ℕ → Result (Unit {0}) FileError → Type 0
Becomes holds fails files kind kerning path answer =
    ((unread : Unread) × fails files path unread × (answer ≡ Err (Served (error_of unread))))
    ⊎ ((file : List ℕ) × holds files path file × JudgesFile (source_in kind file) kerning answer)

-- profile: each answer is what becomes of its file, in the order of the files
abbrev pub AreAnswers : (List ℕ → Result (Unit {0}) FileError → Type 0) → List (Bor (List ℕ)) → List (Result (Unit {0}) FileError) → Type 0
AreAnswers becomes [] [] = Unit {0}
AreAnswers becomes [] (answer ∷ answers) = ⊥
AreAnswers becomes (path ∷ paths) [] = ⊥
AreAnswers becomes (path ∷ paths) (answer ∷ answers) = becomes path.now answer × AreAnswers becomes paths answers

-- profile: the status of a file that was checked
abbrev pub status_of_answer : Result (Unit {0}) FileError → ℕ
status_of_answer (Ok done) = 0
status_of_answer (Err error) = status_of_file error

-- profile: the worst status of all: 4 since memory ran out, else 3 for a file that can't be read, else 1 for a fault
abbrev pub worst_status : List (Result (Unit {0}) FileError) → ℕ
worst_status [] = 0
worst_status (answer ∷ answers) = max (status_of_answer answer) (worst_status answers)

-- profile: what a line begins with that tells of one file of several: its name
abbrev pub front_of : List ℕ → List ℕ
front_of path = path ++ codes ": "

-- profile: the line that tells of a file, where it is refused
abbrev pub answer_lines : List ℕ → Result (Unit {0}) FileError → List (List ℕ)
answer_lines path (Ok done) = []
answer_lines path (Err error) = line_with (front_of path) (file_error_text error) ∷ []

-- profile: the lines that tell of all files that are refused, in their order
abbrev pub lines_of_answers : List (Bor (List ℕ)) → List (Result (Unit {0}) FileError) → List (List ℕ)
lines_of_answers [] answers = []
lines_of_answers (path ∷ paths) [] = []
lines_of_answers (path ∷ paths) (answer ∷ answers) = answer_lines path.now answer ++ lines_of_answers paths answers

-- profile: lines went out, each whole or a beginning of it before a write that failed
abbrev pub AreWritten : {W : Type 0} → (W → Option (List ℕ)) → Tally W → Tally W → List (List ℕ) → Type 0
AreWritten contents old new [] = new ≡ old
AreWritten {W} contents old new (line ∷ lines) = (between : Tally W) × IsWritten contents old between line × AreWritten contents between new lines

-- profile: files were checked, whatever became of those before: of each that is refused a line was written, and the status
-- is the worst
pub record ChecksAll {W : Type 0} (becomes : List ℕ → Result (Unit {0}) FileError → Type 0) (contents : W → Option (List ℕ)) (paths : List (Bor (List ℕ))) (old new : Tally W) (status : ℕ) : Type 0 where
  pub answers : List (Result (Unit {0}) FileError)
  pub each : AreAnswers becomes paths answers
  pub lines : AreWritten contents old new (lines_of_answers paths answers)
  pub worst : status ≡ worst_status answers
