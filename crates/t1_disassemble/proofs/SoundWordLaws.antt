-- The words that some bytes begin with, one after another.
use Rattle.std.proofs.Common.{◌≡◌, ℕ, Bool, ◌-◌, List, [], ◌∷◌, ◌++◌, length, Result, Ok, Err, refl, sym, ap, subst}
use Rattle.std.specs.Result.{MatchResult}
use Rattle.t1_frac.specs.Outcome.{◌>>=◌}
use Rattle.t1_frac.specs.Numbers.{is_number_word}
use Rattle.t1_disassemble.specs.declared.fault.FontCode.{FontCode}
use Rattle.t1_disassemble.specs.Cuts.{pieces_after, pieces}
use Rattle.t1_disassemble.specs.Words.{word_at, front_word, word_left, words_at, words_of, printed_words}
use Rattle.t1_disassemble.specs.WordsOnto.{with_word, put_first}
use Rattle.t1_disassemble.specs.SoundWords.{found_before, sound_words_at, sound_words}
use Rattle.t1_disassemble.proofs.CutPieces.{left_pieces}
use Rattle.t1_disassemble.proofs.Reading.{Leaves, word_leaves, printed_more}

abbrev after_first : List ℕ → List ℕ
after_first bytes = word_left (front_word bytes)

-- where all bytes are words, these are all of them
abbrev AreAll : List (List ℕ) → Result (List (List ℕ)) FontCode → Type 0
AreAll sound words = MatchResult words (λ ws. sound ≡ ws) (λ code. Unit {0})

all_at : (froms : List (List ℕ)) → AreAll (sound_words_at froms) (words_at froms)
all_at [] = refl
all_at (from ∷ others) = step (front_word from) (words_at others) (all_at others) where
  step : (found : Result (List ℕ × List ℕ) FontCode) (more : Result (List (List ℕ)) FontCode) → AreAll (sound_words_at others) more
      → AreAll (found_before found (sound_words_at others)) (found >>= λ it. more >>= λ words. Ok (it.0 ∷ words))
  step (Err code) more h = tt
  step (Ok it) (Err code) h = tt
  step (Ok it) (Ok ws) h = ap (λ (l : List (List ℕ)). it.0 ∷ l) h

pub sound_all : (code : List ℕ) (ws : List (List ℕ)) → words_of code ≡ Ok ws → sound_words code ≡ ws
unfolding words_of sound_words
sound_all code ws h = subst (AreAll (sound_words code)) h (all_at (pieces after_first code))

-- ---- the first word, and those after it

abbrev pub sound_after : Result (List ℕ × List ℕ) FontCode → List (List ℕ)
sound_after (Ok it) = it.0 ∷ sound_words it.1
sound_after (Err code) = []

found_more : (rest : List ℕ) (found : Result (List ℕ × List ℕ) FontCode) → Leaves rest found
    → found_before found (sound_words_at (pieces_after after_first (length rest - length (word_left found)) rest)) ≡ sound_after found
unfolding sound_words
found_more rest (Ok it) h = ap (λ (froms : List (List ℕ)). it.0 ∷ sound_words_at froms) (left_pieces after_first rest it.1 h)
found_more rest (Err code) h = refl

pub sound_more : (v : ℕ) (rest : List ℕ) → sound_words (v ∷ rest) ≡ sound_after (word_at v rest)
unfolding sound_words
sound_more v rest = found_more rest (word_at v rest) (word_leaves v rest)

pub sound_none : sound_words [] ≡ []
unfolding sound_words
sound_none = refl

-- ---- a word that waits behind a text, in front of those that are left

abbrev Shows : List ℕ → List ℕ → Result (List ℕ × Bool × List ℕ) FontCode → Type 0
Shows whole ended put = MatchResult put (λ x. whole ≡ x.0 ++ printed_words x.1 (sound_words x.2)) (λ code. whole ≡ ended)

shown : (text : List ℕ) (is_open : Bool) (v : ℕ) (rest : List ℕ)
    → Shows (text ++ printed_words is_open (sound_words (v ∷ rest))) (text ++ printed_words is_open []) (put_first text is_open v rest)
shown text is_open v rest =
    subst (λ (ws : List (List ℕ)). Shows (text ++ printed_words is_open ws) (text ++ printed_words is_open []) (put_first text is_open v rest)) (sym (sound_more v rest)) (from (word_at v rest)) where
      from : (found : Result (List ℕ × List ℕ) FontCode)
          → Shows (text ++ printed_words is_open (sound_after found)) (text ++ printed_words is_open []) (found >>= λ it. Ok (with_word text is_open it.0, is_number_word it.0, it.1))
      from (Ok it) = printed_more text it.0 is_open (sound_words it.1)
      from (Err code) = refl

pub put_sound : (text : List ℕ) (is_open : Bool) (v : ℕ) (rest : List ℕ) (x : List ℕ × Bool × List ℕ) → put_first text is_open v rest ≡ Ok x
    → text ++ printed_words is_open (sound_words (v ∷ rest)) ≡ x.0 ++ printed_words x.1 (sound_words x.2)
put_sound text is_open v rest x h =
    subst (Shows (text ++ printed_words is_open (sound_words (v ∷ rest))) (text ++ printed_words is_open [])) h (shown text is_open v rest)

pub put_unsound : (text : List ℕ) (is_open : Bool) (v : ℕ) (rest : List ℕ) (code : FontCode) → put_first text is_open v rest ≡ Err code
    → text ++ printed_words is_open (sound_words (v ∷ rest)) ≡ text ++ printed_words is_open []
put_unsound text is_open v rest code h =
    subst (Shows (text ++ printed_words is_open (sound_words (v ∷ rest))) (text ++ printed_words is_open [])) h (shown text is_open v rest)
