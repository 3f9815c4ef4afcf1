-- What explaining a code writes and answers.
use Rattle.std.specs.Prelude.{◌≡◌, ℕ, List, Option, Some, None, Result, Ok, Err}
use Rattle.t1_code.specs.Counted.{Tally, WritesAll, WritesFront}
use Rattle.t1_session.specs.declared.error.ServeError.TheVariants as errors
use Rattle.t1edit.specs.declared.file_error.FileError.TheVariants as files
use Rattle.t1edit.specs.declared.status.Misuse.TheVariants as misuses
use Rattle.t1edit.specs.declared.status.Stop.{Stop}
use Rattle.t1edit.specs.declared.status.Stop.TheVariants as stops

-- profile: a call that writes an explanation, if there is one: the whole text at Ok; a beginning of it and one failed
-- call where a write failed; nothing where the code is unknown, which is so where there is no explanation, or where
-- memory ran out
abbrev pub Explains : {W T : Type 0} → (W → Option (List ℕ)) → Tally W → Tally W → Option (List ℕ) → Result T Stop → Type 0
Explains contents old new given (Ok done) = (whole : List ℕ) × (given ≡ Some whole) × WritesAll contents old new whole
Explains contents old new given (Err (stops.Failed (files.Served errors.Write))) = (whole : List ℕ) × (given ≡ Some whole) × WritesFront contents old new whole
Explains contents old new given (Err (stops.Misused misuses.UnknownCode)) = (given ≡ None) × (new ≡ old)
Explains contents old new given (Err (stops.Failed (files.Served errors.Memory))) = new ≡ old
Explains contents old new given (Err stops.Rejected) = ⊥
Explains contents old new given (Err (stops.Told status)) = ⊥
Explains contents old new given (Err (stops.Misused misuses.InputTwice)) = ⊥
Explains contents old new given (Err (stops.Misused misuses.InputOfSession)) = ⊥
Explains contents old new given (Err (stops.Misused misuses.NoText)) = ⊥
Explains contents old new given (Err (stops.Misused misuses.BlockLength)) = ⊥
Explains contents old new given (Err (stops.Misused misuses.OutputOverSource)) = ⊥
Explains contents old new given (Err (stops.Misused misuses.OutputOverPairs)) = ⊥
Explains contents old new given (Err (stops.Misused misuses.OutputOverFont)) = ⊥
Explains contents old new given (Err (stops.Failed (files.Font fault))) = ⊥
Explains contents old new given (Err (stops.Failed (files.Unread words))) = ⊥
Explains contents old new given (Err (stops.Failed (files.Served (errors.Load fault)))) = ⊥
Explains contents old new given (Err (stops.Failed (files.Served errors.Read))) = ⊥
