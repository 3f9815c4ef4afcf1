-- Which of the runner's functions carries out a command.
use Rattle.std.specs.Prelude.{Bool, true, false}
use Rattle.t1_code.specs.declared.command.Command.{Command}
use Rattle.t1_code.specs.declared.command.Command.TheVariants.{Num, VMoveTo, CallSubr, Return, Seac, Sbw, Div, Pop, SetCurrentPoint, Hsbw, EndChar, RMoveTo, HMoveTo}

-- word: the commands that set the current point and draw nothing
abbrev pub sets_point : Command → Bool
sets_point RMoveTo = true
sets_point HMoveTo = true
sets_point VMoveTo = true
sets_point Hsbw = true
sets_point Sbw = true
sets_point SetCurrentPoint = true
sets_point _ = false

-- word: the commands that put a value on the operand stack
abbrev pub pushes_value : Command → Bool
pushes_value (Num n) = true
pushes_value Pop = true
pushes_value Div = true
pushes_value _ = false

-- word: the commands after which the next word of the same body comes
abbrev pub next_word_follows : Command → Bool
next_word_follows CallSubr = false
next_word_follows Return = false
next_word_follows Seac = false
next_word_follows EndChar = false
next_word_follows _ = true
