-- Code that is added behind what stands there.
use Rattle.std.specs.Prelude.{ℕ, List, ◌++◌, Result, Ok, Err}
use Rattle.t1_frac.specs.declared.fault.Code.{Code}
use Rattle.t1_code.specs.Words.{commands}
use Rattle.t1_code.specs.declared.command.Command.{Command}
use Rattle.t1_code.specs.Charstring.{charstring}

-- word: code that is added after other code
abbrev pub onto : List ℕ → Result (List ℕ) Code → Result (List ℕ) Code
onto front (Ok code) = Ok (front ++ code)
onto front (Err fault) = Err fault

-- word: the charstring of commands, added after other code
abbrev pub charstring_onto : List ℕ → Result (List Command) Code → Result (List ℕ) Code
charstring_onto front (Ok commands) = Ok (front ++ charstring commands)
charstring_onto front (Err fault) = Err fault
