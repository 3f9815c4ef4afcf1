-- The words of bytes that need not all be words.
use Rattle.std.specs.Prelude.{ℕ, false, List, [], ◌∷◌, Result, Ok, Err}
use Rattle.t1_disassemble.specs.declared.fault.FontCode.{FontCode}
use Rattle.t1_disassemble.specs.Cuts.{pieces}
use Rattle.t1_disassemble.specs.Words.{front_word, word_left, printed_words}

-- word: a word in front of others; nothing where there is none
abbrev pub found_before : Result (List ℕ × List ℕ) FontCode → List (List ℕ) → List (List ℕ)
found_before (Ok found) words = found.0 ∷ words
found_before (Err code) words = []

-- word: the words that begin at these places, up to the first bytes that are none
abbrev pub sound_words_at : List (List ℕ) → List (List ℕ)
sound_words_at [] = []
sound_words_at (from ∷ others) = found_before (front_word from) (sound_words_at others)

-- word: the words that some bytes begin with
unfoldable pub sound_words : List ℕ → List (List ℕ)
sound_words code = sound_words_at (pieces (λ bytes. word_left (front_word bytes)) code)

-- word: their lines
abbrev pub code_lines : List ℕ → List ℕ
code_lines code = printed_words false (sound_words code)
