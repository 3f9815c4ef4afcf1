-- What checking a source answers.
use Rattle.std.specs.Prelude.{◌≡◌, ℕ, List, Result, Ok, Err}
use Rattle.t1_session.specs.declared.error.ServeError.{ServeError}
use Rattle.t1_session.specs.declared.error.ServeError.TheVariants as errors
use Rattle.t1_frac.specs.declared.fault.Fault.{Fault}
use Rattle.t1_session.specs.Files.{verdict}
use Rattle.t1_disassemble.specs.declared.fault.FontFault.{FontFault}
use Rattle.t1edit.specs.Sources.{AnswersAs, TellsFontFault}
use Rattle.t1edit.specs.declared.file_error.FileError.{FileError}

-- profile: what is judged passes where the verdict is so, and is refused by its fault, unless memory ran out
abbrev pub Judges : {T : Type 0} → Result (Unit {0}) Fault → Result T ServeError → Type 0
Judges given (Ok done) = given ≡ Ok tt
Judges given (Err (errors.Load fault)) = given ≡ Err fault
Judges given (Err errors.Memory) = Unit {0}
Judges given (Err errors.Read) = ⊥
Judges given (Err errors.Write) = ⊥

-- profile: the source of a file is judged with its pairs, or the fault of a font is told, unless memory ran out
abbrev pub JudgesFile : {T : Type 0} → Result (List ℕ) FontFault → List ℕ → Result T FileError → Type 0
JudgesFile (Ok source) kerning answer = AnswersAs (Judges (verdict source kerning)) answer
JudgesFile (Err fault) kerning answer = TellsFontFault fault answer
