-- The one plain word of each command and number.
use Rattle.std.specs.Prelude.{ℕ, List, codes}
use Rattle.std.specs.Fmt.{signed_decimal}
use Rattle.t1_code.specs.declared.command.Command.{Command}
use Rattle.t1_code.specs.declared.command.Command.TheVariants.{Num, HStem, VStem, VMoveTo, RLineTo, HLineTo, VLineTo, RRCurveTo, ClosePath, CallSubr, Return, DotSection, VStem3, HStem3, Seac, Sbw, Div, CallOtherSubr, Pop, SetCurrentPoint, Hsbw, EndChar, RMoveTo, HMoveTo, VHCurveTo, HVCurveTo}

-- Type 1 Font Format, Chapter 6: the name of a command; profile: a number in decimal, without zeros in front
abbrev pub command_word : Command → List ℕ
command_word (Num n) = signed_decimal n
command_word HStem = codes "hstem"
command_word VStem = codes "vstem"
command_word VMoveTo = codes "vmoveto"
command_word RLineTo = codes "rlineto"
command_word HLineTo = codes "hlineto"
command_word VLineTo = codes "vlineto"
command_word RRCurveTo = codes "rrcurveto"
command_word ClosePath = codes "closepath"
command_word CallSubr = codes "callsubr"
command_word Return = codes "return"
command_word DotSection = codes "dotsection"
command_word VStem3 = codes "vstem3"
command_word HStem3 = codes "hstem3"
command_word Seac = codes "seac"
command_word Sbw = codes "sbw"
command_word Div = codes "div"
command_word CallOtherSubr = codes "callothersubr"
command_word Pop = codes "pop"
command_word SetCurrentPoint = codes "setcurrentpoint"
command_word Hsbw = codes "hsbw"
command_word EndChar = codes "endchar"
command_word RMoveTo = codes "rmoveto"
command_word HMoveTo = codes "hmoveto"
command_word VHCurveTo = codes "vhcurveto"
command_word HVCurveTo = codes "hvcurveto"
