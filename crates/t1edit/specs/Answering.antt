-- What calls within the program answer.
use Rattle.std.specs.Prelude.{◌≡◌, ℕ, Bool, List, Option, Result, Ok, Err}
use Rattle.t1edit.specs.declared.source_file.OutputForm.{OutputForm}
use Rattle.t1edit.specs.declared.status.Stop.{Stop}
use Rattle.t1edit.specs.Assembling.{form}
use Rattle.t1edit.specs.declared.file_error.FileError.{FileError}
use Rattle.t1edit.specs.declared.file_error.FileError.TheVariants.{Served, Unread, Font}
use Rattle.t1_disassemble.specs.declared.fault.FontFault.{FontFault}
use Rattle.t1_session.specs.declared.error.ServeError.TheVariants as errors

-- word: a call answers with that form
abbrev pub FormIs : Bool → Option (List ℕ) → Result OutputForm Stop → Type 0
FormIs pfa block result = result ≡ form pfa block

-- word: why there is no source: the fault that the definition gives, or out of memory
abbrev pub LacksSource : FileError → Result (List ℕ) FontFault → Type 0
LacksSource (Font fault) given = given ≡ Err fault
LacksSource (Served errors.Memory) given = Unit {0}
LacksSource (Served (errors.Load fault)) given = ⊥
LacksSource (Served errors.Read) given = ⊥
LacksSource (Served errors.Write) given = ⊥
LacksSource (Unread words) given = ⊥

-- word: a call answers the source that the definition gives, or why there is none
abbrev pub GivesSource : {X : Type 0} → (X → List ℕ) → Result X FileError → Result (List ℕ) FontFault → Type 0
GivesSource view (Ok text) given = given ≡ Ok (view text)
GivesSource view (Err error) given = LacksSource error given
