-- What disassembling a font's file writes and answers.
use Rattle.std.specs.Prelude.{◌≡◌, ℕ, List, Option, Result, Ok, Err}
use Rattle.t1_code.specs.Counted.{Tally, WritesAll, WritesFront}
use Rattle.t1_disassemble.specs.declared.fault.FontFault.{FontFault}
use Rattle.t1_session.specs.declared.error.ServeError.TheVariants as errors
use Rattle.t1edit.specs.declared.file_error.FileError.TheVariants as files
use Rattle.t1edit.specs.declared.status.Stop.{Stop}
use Rattle.t1edit.specs.declared.status.Stop.TheVariants as stops

-- profile: a call that writes the source of a font's file: the whole source at Ok; a beginning of it and one failed call
-- where a write failed; nothing at a fault, which is the definition's, and nothing where memory ran out
abbrev pub DeliversSource : {W T : Type 0} → (W → Option (List ℕ)) → Tally W → Tally W → Result (List ℕ) FontFault → Result T Stop → Type 0
DeliversSource contents old new given (Ok done) = (whole : List ℕ) × (given ≡ Ok whole) × WritesAll contents old new whole
DeliversSource contents old new given (Err (stops.Failed (files.Served errors.Write))) = (whole : List ℕ) × (given ≡ Ok whole) × WritesFront contents old new whole
DeliversSource contents old new given (Err (stops.Failed (files.Font fault))) = (given ≡ Err fault) × (new ≡ old)
DeliversSource contents old new given (Err (stops.Failed (files.Served errors.Memory))) = new ≡ old
DeliversSource contents old new given (Err stops.Rejected) = ⊥
DeliversSource contents old new given (Err (stops.Told status)) = ⊥
DeliversSource contents old new given (Err (stops.Misused misuse)) = ⊥
DeliversSource contents old new given (Err (stops.Failed (files.Served (errors.Load fault)))) = ⊥
DeliversSource contents old new given (Err (stops.Failed (files.Served errors.Read))) = ⊥
DeliversSource contents old new given (Err (stops.Failed (files.Unread words))) = ⊥
