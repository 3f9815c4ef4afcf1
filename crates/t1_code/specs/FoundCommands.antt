-- How the code finds words and their commands.
use Rattle.std.specs.Prelude.{◌≡◌, ℕ, true, not, List, ◌++◌, take, drop, Option, None, Some, Result, Ok, Err}
use Rattle.std.specs.Borrow.{Bor}
use Rattle.std.specs.List.{position_or_len, list_all}
use Rattle.std.specs.Option.{MatchOption}
use Rattle.t1_frac.specs.Words.{is_blank}
use Rattle.t1_frac.specs.declared.fault.Code.{Code}
use Rattle.t1_code.specs.declared.command.Command.{Command}
use Rattle.t1_code.specs.Words.{operator_named, commands}

-- word, words: the bytes in front of the first blank
abbrev pub first_word : List ℕ → List ℕ
first_word text = take (position_or_len is_blank text) text

-- word: a word, which has no blank, names this command
abbrev pub IsWordOf : Command → List ℕ → Type 0
IsWordOf command word = (list_all (λ c. not (is_blank c)) word ≡ true) × (operator_named word ≡ Some command)

-- word, words: the bytes past the first word and the blank that ends it
abbrev pub past_first_word : List ℕ → List ℕ
past_first_word text = drop 1 (drop (position_or_len is_blank text) text)

-- word: what is found is the command that the first word names, where it names one, and the bytes past the word
abbrev pub FindsCommand : List ℕ → Option (Command × Bor (List ℕ)) → Type 0
FindsCommand text found =
    MatchOption
    found
    (operator_named (first_word text) ≡ None)
    (λ it. (operator_named (first_word text) ≡ Some it.0) × (it.1.now ≡ past_first_word text))

-- word: commands after others, or their fault
abbrev pub after_others : List Command → Result (List Command) Code → Result (List Command) Code
after_others others (Ok commands) = Ok (others ++ commands)
after_others others (Err code) = Err code
