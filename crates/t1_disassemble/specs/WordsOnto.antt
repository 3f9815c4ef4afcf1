-- The words of a charstring, printed after a text.
use Rattle.std.specs.Prelude.{ℕ, ℤ, pos, negsuc, codes, Bool, if◌then◌else◌, List, [], ◌∷◌, ◌++◌, Result, Ok, Err}
use Rattle.t1_frac.specs.Ascii.{line_feed, space, tab}
use Rattle.t1_frac.specs.Numbers.{is_number_word}
use Rattle.t1_frac.specs.Outcome.{◌>>=◌}
use Rattle.t1_disassemble.specs.declared.fault.FontCode.{FontCode}
use Rattle.t1_disassemble.specs.Words.{word_at, printed_words}

-- word, printing: a text in front of the words, or their fault
abbrev pub words_onto : List ℕ → Bool → Result (List (List ℕ)) FontCode → Result (List ℕ) FontCode
words_onto text is_open (Ok ws) = Ok (text ++ printed_words is_open ws)
words_onto text is_open (Err fault) = Err fault

-- word, printing: a word after a text, on a line that is open or begins; a word that isn't a number word ends its line
abbrev pub with_word : List ℕ → Bool → List ℕ → List ℕ
with_word text is_open w = text ++ (if is_open then space else tab) ∷ w ++ (if is_number_word w then [] else line_feed ∷ [])

-- word, printing: the text with its next word, whether the word's line is still open, and the bytes after it, or the fault
abbrev pub put_first : List ℕ → Bool → ℕ → List ℕ → Result (List ℕ × Bool × List ℕ) FontCode
put_first text is_open v rest = word_at v rest >>= λ found. Ok (with_word text is_open found.0, is_number_word found.0, found.1)

-- word, printing: the minus of a number below 0
abbrev pub sign_of : ℤ → List ℕ
sign_of (pos n) = []
sign_of (negsuc n) = codes "-"
