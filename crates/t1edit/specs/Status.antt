-- The exit statuses of the program, and its lines on standard error.
use Rattle.std.specs.Prelude.{◌≡◌, ◌⊎◌, ◌++◌, ℕ, List, Option, Result, Ok, Err, codes}
use Rattle.t1_code.specs.Counted.{Tally, WritesAll, WritesFront}
use Rattle.t1_disassemble.specs.declared.fault.FontRefusal.{FontRefusal}
use Rattle.t1edit.specs.FileErrors.{file_error_text, status_of_file, told_of_font}
use Rattle.t1edit.specs.declared.file_error.FileError.{FileError}
use Rattle.t1edit.specs.declared.status.Misuse.{Misuse}
use Rattle.t1edit.specs.declared.status.Misuse.TheVariants.{InputTwice, InputOfSession, UnknownCode, NoText, BlockLength, OutputOverSource, OutputOverPairs, OutputOverFont}
use Rattle.t1edit.specs.declared.status.Stop.{Stop}
use Rattle.t1edit.specs.declared.status.Stop.TheVariants.{Rejected, Misused, Failed, Told}

-- profile: the fault of a font's file, or out of memory
abbrev pub stop_of_font : FontRefusal → Stop
stop_of_font refused = Failed (told_of_font refused)

-- profile: 2 for a command line that can't be carried out
abbrev pub status_of_misuse : ℕ
status_of_misuse = 2

-- profile: the status of a run that stopped: that of the error of a file, the worst of several sources
abbrev pub status_of_stop : Stop → ℕ
status_of_stop Rejected = status_of_misuse
status_of_stop (Misused misuse) = status_of_misuse
status_of_stop (Failed error) = status_of_file error
status_of_stop (Told status) = status

-- profile: 0 where all was done
abbrev pub status_of_run : {T : Type 0} → Result T Stop → ℕ
status_of_run (Ok done) = 0
status_of_run (Err stop) = status_of_stop stop

-- profile: a line that holds a text after what begins it
abbrev pub line_with : List ℕ → List ℕ → List ℕ
line_with front text = front ++ text ++ codes "\n"

-- profile: the line that reports the error of a file
abbrev pub error_line : FileError → List ℕ
error_line error = line_with (codes "t1edit: ") (file_error_text error)

-- profile: the line that reports a misuse
abbrev pub misuse_line : Misuse → List ℕ
misuse_line InputTwice = codes "t1edit: only one of SOURCE and FILE can be standard input\n"
misuse_line InputOfSession = codes "t1edit: a session has its commands from standard input, so neither SOURCE nor FILE can be -\n"
misuse_line UnknownCode = codes "t1edit: no such code; 't1edit explain' lists all of them\n"
misuse_line NoText = codes "t1edit: an argument is no UTF-8 text\n"
misuse_line BlockLength = codes "t1edit: a block has 1 to 2147483647 bytes\n"
misuse_line OutputOverSource = codes "t1edit: -o would write over SOURCE\n"
misuse_line OutputOverPairs = codes "t1edit: -o would write over the kerning file\n"
misuse_line OutputOverFont = codes "t1edit: -o would write over FONT\n"

-- profile: a line went out, or a beginning of it before a write that failed
abbrev pub IsWritten : {W : Type 0} → (W → Option (List ℕ)) → Tally W → Tally W → List ℕ → Type 0
IsWritten contents old new line = WritesAll contents old new line ⊎ WritesFront contents old new line

-- profile: the line of a run that stopped is written, and none where the command line was rejected, or the sources were told
-- of, since their lines stand there
abbrev pub ReportsStop : {W : Type 0} → (W → Option (List ℕ)) → Tally W → Tally W → Stop → Type 0
ReportsStop contents old new Rejected = new ≡ old
ReportsStop contents old new (Misused misuse) = IsWritten contents old new (misuse_line misuse)
ReportsStop contents old new (Failed error) = IsWritten contents old new (error_line error)
ReportsStop contents old new (Told status) = new ≡ old

-- profile: a run that did all reports nothing
abbrev pub ReportsRun : {W T : Type 0} → (W → Option (List ℕ)) → Tally W → Tally W → Result T Stop → Type 0
ReportsRun contents old new (Ok done) = new ≡ old
ReportsRun contents old new (Err stop) = ReportsStop contents old new stop
