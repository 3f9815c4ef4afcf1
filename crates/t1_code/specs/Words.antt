-- The words of a charstring: numbers and commands.
use Rattle.std.specs.Prelude.{ℕ, ◌^◌, ℤ, pos, negsuc, Bool, nat_lt, if◌then◌else◌, List, [], ◌∷◌, length, codes, Option, None, Some, Result, Ok, Err}
use Rattle.std.specs.Map.{lookup}
use Rattle.std.specs.Str.{bytes_eq}
use Rattle.t1_frac.specs.Numbers.{is_number_word, number_written}
use Rattle.t1_frac.specs.declared.fault.Code.{Code}
use Rattle.t1_frac.specs.declared.fault.Code.TheVariants.{F20, F21, F22}
use Rattle.t1_code.specs.declared.command.Command.{Command}
use Rattle.t1_code.specs.declared.command.Command.TheVariants.{Num, HStem, VStem, VMoveTo, RLineTo, HLineTo, VLineTo, RRCurveTo, ClosePath, CallSubr, Return, DotSection, VStem3, HStem3, Seac, Sbw, Div, CallOtherSubr, Pop, SetCurrentPoint, Hsbw, EndChar, RMoveTo, HMoveTo, VHCurveTo, HVCurveTo}

-- Type 1 Font Format, Chapter 6 (charstring number encoding): a number is from -2^31 to 2^31 - 1
abbrev pub fits_32_bits : ℤ → Bool
fits_32_bits (pos n) = nat_lt n (2 ^ 31)
fits_32_bits (negsuc n) = nat_lt n (2 ^ 31)

-- profile: a number that doesn't fit is a fault
abbrev pub in_32_bits : ℤ → Result ℤ Code
in_32_bits n = if fits_32_bits n then Ok n else Err F21

-- profile: the number that a number word writes, where it fits 32 bits
unfoldable pub number_of_word : List ℕ → Result ℤ Code
number_of_word word = in_32_bits (number_written word)

-- Type 1 Font Format, Chapter 6 (charstring command encoding): each command and the word that names it, by their codes
unfoldable pub operator_words : List (List ℕ × Command)
operator_words =
    (codes "hstem", HStem) ∷
    (codes "vstem", VStem) ∷
    (codes "vmoveto", VMoveTo) ∷
    (codes "rlineto", RLineTo) ∷
    (codes "hlineto", HLineTo) ∷
    (codes "vlineto", VLineTo) ∷
    (codes "rrcurveto", RRCurveTo) ∷
    (codes "closepath", ClosePath) ∷
    (codes "callsubr", CallSubr) ∷
    (codes "return", Return) ∷
    (codes "dotsection", DotSection) ∷
    (codes "vstem3", VStem3) ∷
    (codes "hstem3", HStem3) ∷
    (codes "seac", Seac) ∷
    (codes "sbw", Sbw) ∷
    (codes "div", Div) ∷
    (codes "callothersubr", CallOtherSubr) ∷
    (codes "pop", Pop) ∷
    (codes "setcurrentpoint", SetCurrentPoint) ∷
    (codes "hsbw", Hsbw) ∷
    (codes "endchar", EndChar) ∷
    (codes "rmoveto", RMoveTo) ∷
    (codes "hmoveto", HMoveTo) ∷
    (codes "vhcurveto", VHCurveTo) ∷
    (codes "hvcurveto", HVCurveTo) ∷
    []

-- profile: the command that a word names
unfoldable pub operator_named : List ℕ → Option Command
operator_named word = lookup (bytes_eq word) operator_words

-- profile: a number among commands
abbrev pub number_command : Result ℤ Code → Result Command Code
number_command (Ok n) = Ok (Num n)
number_command (Err code) = Err code

-- profile: a word that names no command is a fault
abbrev pub or_unknown : Option Command → Result Command Code
or_unknown None = Err F20
or_unknown (Some command) = Ok command

-- profile: what a word says: a number, a command, or why it says nothing
unfoldable pub command_of_word : List ℕ → Result Command Code
command_of_word word = if is_number_word word then number_command (number_of_word word) else or_unknown (operator_named word)

-- profile: the commands with this one before them, or the first fault
abbrev pub command_then : Result Command Code → Result (List Command) Code → Result (List Command) Code
command_then (Ok command) (Ok commands) = Ok (command ∷ commands)
command_then (Ok command) (Err code) = Err code
command_then (Err code) rest = Err code

-- profile: the commands of the words, or the fault of the first word that has one
abbrev pub commands_of_words : List (List ℕ) → Result (List Command) Code
commands_of_words [] = Ok []
commands_of_words (word ∷ words) = command_then (command_of_word word) (commands_of_words words)

-- profile: a body has at most 65,535 words, and its length is judged before its words
unfoldable pub commands : List (List ℕ) → Result (List Command) Code
commands words = if nat_lt 65535 (length words) then Err F22 else commands_of_words words
