-- The source that a file has, or that a font is disassembled to, and what calls over such a file answer.
use Rattle.std.specs.Prelude.{◌≡◌, ℕ, Bool, true, false, List, Result, Ok, Err}
use Rattle.t1_disassemble.specs.Disassembly.{disassembled}
use Rattle.t1_disassemble.specs.declared.fault.FontFault.{FontFault}
use Rattle.t1_session.specs.declared.error.ServeError.{ServeError}
use Rattle.t1_session.specs.declared.error.ServeError.TheVariants as errors
use Rattle.t1edit.specs.declared.file_error.FileError.{FileError}
use Rattle.t1edit.specs.declared.file_error.FileError.TheVariants.{Served, Unread, Font}
use Rattle.t1edit.specs.declared.source_file.Kind.{Kind}
use Rattle.t1edit.specs.declared.source_file.Kind.TheVariants as kinds

-- profile: with --font the source is a font's file
abbrev pub kind_of : Bool → Kind
kind_of true = kinds.Font
kind_of false = kinds.Source

-- profile: the source of a file: its bytes, or of a font the text that it is disassembled to, or the first fault
abbrev pub source_in : Kind → List ℕ → Result (List ℕ) FontFault
source_in kinds.Source file = Ok file
source_in kinds.Font file = disassembled file

-- profile: a call over a file answers as one over its source does, and tells no fault of a font
abbrev pub AnswersAs : {T : Type 0} → (Result T ServeError → Type 0) → Result T FileError → Type 0
AnswersAs does (Ok done) = does (Ok done)
AnswersAs does (Err (Served error)) = does (Err error)
AnswersAs does (Err (Unread words)) = ⊥
AnswersAs does (Err (Font fault)) = ⊥

-- profile: a call tells this fault of a font, or out of memory
abbrev pub TellsFontFault : {T : Type 0} → FontFault → Result T FileError → Type 0
TellsFontFault fault (Ok done) = ⊥
TellsFontFault fault (Err (Font told)) = told ≡ fault
TellsFontFault fault (Err (Served errors.Memory)) = Unit {0}
TellsFontFault fault (Err (Served (errors.Load other))) = ⊥
TellsFontFault fault (Err (Served errors.Read)) = ⊥
TellsFontFault fault (Err (Served errors.Write)) = ⊥
TellsFontFault fault (Err (Unread words)) = ⊥

-- profile: a call over a file does what it does over the source of that file; where a font has a fault, that is told, and
-- nothing is read or written
abbrev pub OnSource : {S T : Type 0} → Result (List ℕ) FontFault → S → S → (List ℕ → Result T ServeError → Type 0) → Result T FileError → Type 0
OnSource (Ok source) old new does result = AnswersAs (does source) result
OnSource (Err fault) old new does result = (new ≡ old) × TellsFontFault fault result
