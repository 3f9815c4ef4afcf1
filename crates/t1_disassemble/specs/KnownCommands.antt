-- Commands by the bytes that they begin with.
use Rattle.std.specs.Prelude.{◌≡◌, ℕ, List, Ok}
use Rattle.t1_code.specs.Charstring.{Fits32Bits}
use Rattle.t1_code.specs.declared.command.Command.{Command}
use Rattle.t1_disassemble.specs.CommandWords.{command_word}
use Rattle.t1_disassemble.specs.Words.{word_at}

-- word: a byte, and a command
pub record KnownByte : Type 0 where
  pub first : ℕ
  pub command : Command

-- word: all bytes that begin with this one begin with this command
pub record IsKnownCommand (first : ℕ) (command : Command) : Type 0 where
  pub read : (rest : List ℕ) → word_at first rest ≡ Ok (command_word command, rest)
  pub fits : Fits32Bits command
