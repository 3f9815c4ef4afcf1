-- What a whole session reads and writes.
use Rattle.std.specs.Prelude.{◌≡◌, ◌⊎◌, ℕ, Bool, true, false, List, [], ◌∷◌, ◌++◌, Option, Result, Ok, Err}
use Rattle.std.specs.Io.KnownBytes.{Consumes, IsAtEnd}
use Rattle.t1_frac.specs.declared.fault.Fault.{Fault}
use Rattle.t1_code.specs.Counted.{Tally, WritesFront, one_more}
use Rattle.t1_session.specs.declared.error.ServeError.{ServeError}
use Rattle.t1_session.specs.declared.error.ServeError.TheVariants as errors
use Rattle.t1_commands.specs.Answers.{session_answers}
use Rattle.t1_commands.specs.Commands.{input_commands}
use Rattle.t1_commands.specs.declared.command.SessionCommand.{SessionCommand}
use Rattle.t1_text.specs.Lines.{is_line_end}
use Rattle.t1_session.specs.Flushing.{WritesAndFlushes}
use Rattle.t1_session.specs.LineEnds.{ends_line, ends_in_return}
use Rattle.t1_session.specs.Machine.{machine}
use Rattle.t1_session.specs.State.{SessionState}

-- profile: a reader and a writer, and what contracts know of the bytes that they have
pub record Streams (R W : Type 0) : Type 0 where
  pub reader : Tally R
  pub writer : Tally W

-- profile: these two, as streams
abbrev pub streams : {R W : Type 0} → Tally R → Tally W → Streams R W
streams reader writer = record { reader = reader; writer = writer }

-- profile: a body is open after this input: if it ended there, there would be a command more
pub record IsInBody (input : List ℕ) : Type 0 where
  pub left : SessionCommand
  pub more : input_commands true input ≡ input_commands false input ++ left ∷ []

-- profile: a byte that makes longer what a session keeps of its input: one of a line, or the end of a line of a body
abbrev pub WantsRoom : List ℕ → ℕ → Type 0
WantsRoom front byte = (is_line_end byte ≡ false) ⊎ ((ends_line (ends_in_return false front) byte ≡ true) × IsInBody (front ++ byte ∷ []))

module _ {R : Type 0} (remaining : R → Option (List ℕ)) where
  -- profile: this input was read, and no read failed
  pub record Reads (old new : Tally R) (input : List ℕ) : Type 0 where
    pub consumes : Consumes (remaining old.inner) (remaining new.inner) input
    pub failures : new.failures ≡ old.failures

  -- profile: this input was read, and then a read failed
  pub record ReadsAndFails (old new : Tally R) (input : List ℕ) : Type 0 where
    pub consumes : Consumes (remaining old.inner) (remaining new.inner) input
    pub failures : new.failures ≡ one_more old.failures

module _ {R W : Type 0} (remaining : R → Option (List ℕ)) (contents : W → Option (List ℕ)) where
  -- profile: at Ok, the input was read to its end, and the answer to it written
  pub record Finishes (state : SessionState) (old new : Streams R W) : Type 0 where
    pub input : List ℕ
    pub marks : List Bool
    pub reads : Reads remaining old.reader new.reader input
    pub at_end : IsAtEnd (remaining new.reader.inner)
    pub writes : WritesAndFlushes contents old.writer new.writer (session_answers machine state input true marks)

  -- profile: at Read, the answer to what was read, as input that goes on, was written
  pub record StopsAtRead (state : SessionState) (old new : Streams R W) : Type 0 where
    pub input : List ℕ
    pub marks : List Bool
    pub reads : ReadsAndFails remaining old.reader new.reader input
    pub writes : WritesAndFlushes contents old.writer new.writer (session_answers machine state input false marks)

  -- profile: at Memory, the answer to a beginning of what was read, as input that goes on, was written; the next byte,
  -- for which there was no memory, goes into a line or a body, and finishes no command
  pub record StopsForMemory (state : SessionState) (old new : Streams R W) : Type 0 where
    pub front : List ℕ
    pub byte : ℕ
    pub rest : List ℕ
    pub marks : List Bool
    pub reads : Reads remaining old.reader new.reader (front ++ byte ∷ rest)
    pub wants_room : WantsRoom front byte
    pub finishes_none : input_commands false (front ++ byte ∷ []) ≡ input_commands false front
    pub writes : WritesAndFlushes contents old.writer new.writer (session_answers machine state front false marks)

  -- profile: at Write, a beginning of the answer to what was read, as whole input, was written
  pub record StopsAtWrite (state : SessionState) (old new : Streams R W) : Type 0 where
    pub input : List ℕ
    pub marks : List Bool
    pub reads : Reads remaining old.reader new.reader input
    pub writes : WritesFront contents old.writer new.writer (session_answers machine state input true marks)

  -- profile: a session from the state that it opened with
  abbrev pub Converses : {T : Type 0} → SessionState → Streams R W → Streams R W → Result T ServeError → Type 0
  Converses state old new (Ok done) = Finishes state old new
  Converses state old new (Err errors.Read) = StopsAtRead state old new
  Converses state old new (Err errors.Memory) = StopsForMemory state old new
  Converses state old new (Err errors.Write) = StopsAtWrite state old new
  Converses state old new (Err (errors.Load fault)) = ⊥

  -- profile: out of memory before the session was open: nothing was read or written
  abbrev pub NeverOpens : {T : Type 0} → Streams R W → Streams R W → Result T ServeError → Type 0
  NeverOpens old new (Ok done) = ⊥
  NeverOpens old new (Err errors.Read) = ⊥
  NeverOpens old new (Err errors.Memory) = new ≡ old
  NeverOpens old new (Err errors.Write) = ⊥
  NeverOpens old new (Err (errors.Load fault)) = ⊥

  -- profile: the refusal of what no session can be opened on: its fault, or out of memory
  abbrev pub RefusesToOpen : {T : Type 0} → Fault → Result T ServeError → Type 0
  RefusesToOpen fault (Ok done) = ⊥
  RefusesToOpen fault (Err errors.Read) = ⊥
  RefusesToOpen fault (Err errors.Memory) = Unit {0}
  RefusesToOpen fault (Err errors.Write) = ⊥
  RefusesToOpen fault (Err (errors.Load reported)) = reported ≡ fault

  -- profile: a whole session: from the state that it opens with, unless memory ran out before; or nothing is read or
  -- written, and the refusal is reported
  abbrev pub Serves : {T : Type 0} → Result SessionState Fault → Streams R W → Streams R W → Result T ServeError → Type 0
  Serves (Ok state) old new result = Converses state old new result ⊎ NeverOpens old new result
  Serves (Err fault) old new result = (new ≡ old) × RefusesToOpen fault result
