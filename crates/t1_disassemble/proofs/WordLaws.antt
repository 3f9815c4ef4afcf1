-- The words of charstrings that commands made.
use Rattle.std.proofs.Common.{◌≡◌, ℕ, ℤ, suc, true, ◌+◌, ◌*◌, ◌^◌, ◌≤◌, ◌<◌, List, [], ◌∷◌, ◌++◌, map, Result, Ok, refl, sym, ap, ◌∙◌, inl, inr, arith, pos, negsuc, FitsSigned, w32}
use Rattle.std.proofs.lemmas.Bool.{lt-ltb, le-ltb}
use Rattle.std.specs.Fmt.{decimal, signed_decimal}
use Rattle.std.specs.Int.{cast_signed, from_be_bytes}
use Rattle.t1_frac.specs.Outcome.{◌>>=◌}
use Rattle.t1_frac.specs.Numbers.{is_number_word, number_written}
use Rattle.t1_text.proofs.NumberLaws.{decimal_spells, digits_word, minus_word}
use Rattle.t1_code.specs.declared.command.Command.{Command}
use Rattle.t1_code.specs.declared.command.Command.TheVariants.{Num}
use Rattle.t1_code.specs.Charstring.{Spells, SpellsNumber, SpellsAll, AllFit, Fits32Bits}
use Rattle.t1_code.specs.Words.{command_of_word, commands_of_words, number_of_word, operator_named, operator_words, fits_32_bits}
use Rattle.t1_disassemble.specs.declared.fault.FontCode.{FontCode}
use Rattle.t1_disassemble.specs.CommandWords.{command_word}
use Rattle.t1_disassemble.specs.Words.{word_at, front_word, words_of}
use Rattle.t1_disassemble.proofs.Reading.{words_more, then_words, number_is_word}

abbrev spelled : List ℕ → ℤ → Result (List ℕ × List ℕ) FontCode
spelled rest n = Ok (signed_decimal n, rest)

four : (a b c d : ℕ) → from_be_bytes w32 (a ∷ b ∷ c ∷ d ∷ []) ≡ ((a * 256 + b) * 256 + c) * 256 + d
four a b c d = omega arith

number_again : (a : List ℕ) (n : ℤ) (x : List ℕ) → SpellsNumber a n → front_word (a ++ x) ≡ Ok (signed_decimal n, x)
unfolding word_at
number_again [] n x h = absurd h
number_again (v ∷ []) n x h =
    let low : 32 ≤ v = h.0 in
    let high : v < 247 = omega arith in
    rw (le-ltb v 32 low, lt-ltb v 247 high) (ap (spelled x) (sym h.2))
number_again (v ∷ w ∷ []) n x (inl h) =
    let past : 247 ≤ v = h.0 in
    let low : 32 ≤ v = omega arith in
    let high : v < 251 = omega arith in
    rw (le-ltb v 32 low, le-ltb v 247 past, lt-ltb v 251 high) (ap (spelled x) (sym h.3))
number_again (v ∷ w ∷ []) n x (inr h) =
    let over : 251 ≤ v = h.0 in
    let low : 32 ≤ v = omega arith in
    let past : 247 ≤ v = omega arith in
    let high : v < 255 = omega arith in
    rw (le-ltb v 32 low, le-ltb v 247 past, le-ltb v 251 over, lt-ltb v 255 high) (ap (spelled x) (sym h.3))
number_again (v ∷ w ∷ y ∷ []) n x h = absurd h
number_again (v ∷ w ∷ y ∷ z ∷ []) n x h = absurd h
number_again (v ∷ a ∷ b ∷ c ∷ d ∷ []) n x h = rw h.0 (ap (spelled x) (ap (cast_signed w32) (four a b c d) ∙ sym h.5))
number_again (v ∷ a ∷ b ∷ c ∷ d ∷ e ∷ more) n x h = absurd h

word_again : (a : List ℕ) (c : Command) (x : List ℕ) → Spells a c → front_word (a ++ x) ≡ Ok (command_word c, x)
unfolding word_at
word_again a (Num n) x h = number_again a n x h
word_again a command x h = rw h refl

pub one_word : (code w after : List ℕ) → front_word code ≡ Ok (w, after) → words_of code ≡ (words_of after >>= λ words. Ok (w ∷ words))
one_word [] w after e = absurd (cc)
one_word (v ∷ rest) w after e = words_more v rest ∙ ap then_words e

pub no_words : words_of [] ≡ Ok []
unfolding words_of
no_words = refl

-- bytes that spell commands are read as their words
pub words_again : (code : List ℕ) (cs : List Command) → SpellsAll code cs → words_of code ≡ Ok (map command_word cs)
words_again code [] h = ap words_of h ∙ no_words
words_again code (c ∷ cs) h =
    one_word code (command_word c) h.1 (ap front_word h.2 ∙ word_again h.0 c h.1 h.3)
    ∙ ap (λ (r : Result (List (List ℕ)) FontCode). r >>= λ words. Ok (command_word c ∷ words)) (words_again h.1 cs h.4)

-- ---- and these words say the commands

fits_again : (n : ℤ) → FitsSigned w32 n → fits_32_bits n ≡ true
fits_again (pos n) fits = let small : n < 2 ^ 31 = omega (arith, fits.sfits) in lt-ltb n (2 ^ 31) small
fits_again (negsuc n) fits = let small : n < 2 ^ 31 = omega (arith, fits.sfits) in lt-ltb n (2 ^ 31) small

written_again : (n : ℤ) → FitsSigned w32 n → number_written (signed_decimal n) ≡ n
written_again (pos n) fits = let small : n < 2 ^ 64 = omega (arith, fits.sfits) in (digits_word (decimal n) n (decimal_spells n small)).1
written_again (negsuc n) fits = let small : suc n < 2 ^ 64 = omega (arith, fits.sfits) in (minus_word (decimal (suc n)) (suc n) (decimal_spells (suc n) small)).1

pub number_said : (n : ℤ) → FitsSigned w32 n → command_of_word (signed_decimal n) ≡ Ok (Num n)
unfolding command_of_word number_of_word
number_said n fits = rw (number_is_word n fits, written_again n fits, fits_again n fits) refl

pub command_said : (c : Command) → Fits32Bits c → command_of_word (command_word c) ≡ Ok c
unfolding command_of_word operator_named operator_words is_number_word
command_said (Num n) fits = number_said n fits
command_said c fits = refl

pub commands_said : (cs : List Command) → AllFit cs → commands_of_words (map command_word cs) ≡ Ok cs
commands_said [] h = refl
commands_said (c ∷ cs) h = rw (command_said c h.0, commands_said cs h.1) refl
