-- Why a call over the bytes of a file stops, and how that is told.
use Rattle.std.specs.Prelude.{ℕ, List, ◌++◌, codes}
use Rattle.t1_commands.specs.AnswerTexts.{fault_text}
use Rattle.t1_disassemble.specs.declared.fault.FontRefusal.{FontRefusal}
use Rattle.t1_disassemble.specs.declared.fault.FontRefusal.TheVariants as refusals
use Rattle.t1_session.specs.declared.error.ServeError.{ServeError}
use Rattle.t1_session.specs.declared.error.ServeError.TheVariants.{Load, Read, Write, Memory}
use Rattle.t1_fault_texts.specs.FontFaults.{font_fault_text}
use Rattle.t1edit.specs.declared.file_error.FileError.{FileError}
use Rattle.t1edit.specs.declared.file_error.FileError.TheVariants.{Served, Unread, Font}

-- profile: the fault of a font's file, or out of memory
abbrev pub told_of_font : FontRefusal → FileError
told_of_font (refusals.Fault fault) = Font fault
told_of_font refusals.Memory = Served Memory

-- profile: an error in words
abbrev pub error_text : ServeError → List ℕ
error_text (Load fault) = fault_text fault
error_text Read = codes "read failed"
error_text Write = codes "write failed"
error_text Memory = codes "out of memory"

-- profile: 1 for a source or pairs that are refused, 3 where reading or writing failed, 4 since memory ran out
abbrev pub status_of : ServeError → ℕ
status_of (Load fault) = 1
status_of Read = 3
status_of Write = 3
status_of Memory = 4

-- profile: an error of a file in words
abbrev pub file_error_text : FileError → List ℕ
file_error_text (Served error) = error_text error
file_error_text (Unread words) = codes "read failed: " ++ words
file_error_text (Font fault) = font_fault_text fault

-- profile: the status of an error of a file: 1 for a font's file that has a fault
abbrev pub status_of_file : FileError → ℕ
status_of_file (Served error) = status_of error
status_of_file (Unread words) = 3
status_of_file (Font fault) = 1
