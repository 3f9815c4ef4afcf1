-- Commands by their words, as far as notes ask for them.
use Rattle.std.specs.Prelude.{Bool, true, false, Option, Some, None}
use Rattle.t1_code.specs.declared.command.Command.{Command}
use Rattle.t1_code.specs.declared.command.Command.TheVariants.{Num, CallSubr, Return, Div, CallOtherSubr, Pop, RMoveTo, HMoveTo, VMoveTo, EndChar, ClosePath, Hsbw}

-- Type 1 Font Format, Chapter 6 (charstring command list): the commands that leave no value on the stack
abbrev pub clears : Command → Bool
clears (Num n) = false
clears CallSubr = false
clears Return = false
clears Div = false
clears CallOtherSubr = false
clears Pop = false
clears c = true

-- Type 1 Font Format, Chapter 6 (hsbw): the command that sets the width alone
abbrev pub is_hsbw : Command → Bool
is_hsbw Hsbw = true
is_hsbw c = false

-- Type 1 Font Format, Chapter 6 (closepath): the commands in front of which a path should be closed
abbrev pub wants_closed : Command → Bool
wants_closed RMoveTo = true
wants_closed HMoveTo = true
wants_closed VMoveTo = true
wants_closed EndChar = true
wants_closed c = false

-- profile, notes: these, closepath, and commands by which others are run: what was drawn before one of them doesn't count
abbrev pub ends_path : Command → Bool
ends_path ClosePath = true
ends_path CallSubr = true
ends_path CallOtherSubr = true
ends_path Return = true
ends_path c = wants_closed c

-- profile, notes: whether a word names a command, and it passes the test
abbrev pub passes : (Command → Bool) → Option Command → Bool
passes test None = false
passes test (Some c) = test c
