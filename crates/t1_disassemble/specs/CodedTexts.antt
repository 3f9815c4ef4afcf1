-- Words of a text, and the charstrings that they were made of.
use Rattle.std.specs.Prelude.{◌≡◌, ◌≤◌, ◌-◌, ℕ, false, List, take, drop, length, Ok}
use Rattle.t1_frac.specs.Words.{words}
use Rattle.t1_disassemble.specs.declared.coded_text.CodedBody.{CodedBody}
use Rattle.t1_disassemble.specs.Words.{words_of, printed_words}

-- word: what stands between two places
abbrev pub between : ℕ → ℕ → List ℕ → List ℕ
between start end bytes = take (end - start) (drop start bytes)

-- word: the text at a body's place is what is printed of the words of its charstring
pub record IsCodedBody (text codes : List ℕ) (body : CodedBody) : Type 0 where
  pub words_order : body.words ≤ body.words_end
  pub words_within : body.words_end ≤ length text
  pub code_order : body.code ≤ body.code_end
  pub code_within : body.code_end ≤ length codes
  pub said : (ws : List (List ℕ)) → words_of (between body.code body.code_end codes) ≡ Ok ws → between body.words body.words_end text ≡ printed_words false ws

-- word: where these bytes are words, a body has those that are printed of them
abbrev pub IsCodeOf : List (List ℕ) → List ℕ → Type 0
IsCodeOf body code = (ws : List (List ℕ)) → words_of code ≡ Ok ws → body ≡ words (printed_words false ws)
