-- How long the charstring of a body can be.
use Rattle.std.proofs.Common.{◌≡◌, ℕ, ◌+◌, ◌*◌, ◌≤◌, ℤ, pos, negsuc, List, [], ◌∷◌, length, Result, Ok, Err, refl, sym, inl, inr, arith}
use Rattle.std.specs.Prelude.{nat_le, nat_lt}
use Rattle.std.proofs.lemmas.Bool.{cases_Bool}
use Rattle.std.proofs.lemmas.List.{length-append}
use Rattle.t1_frac.specs.declared.fault.Code.{Code}
use Rattle.t1_code.specs.declared.command.Command.{Command}
use Rattle.t1_code.specs.declared.command.Command.TheVariants.{Num, HStem, VStem, VMoveTo, RLineTo, HLineTo, VLineTo, RRCurveTo, ClosePath, CallSubr, Return, DotSection, VStem3, HStem3, Seac, Sbw, Div, CallOtherSubr, Pop, SetCurrentPoint, Hsbw, EndChar, RMoveTo, HMoveTo, VHCurveTo, HVCurveTo}
use Rattle.t1_code.specs.Words.{commands, commands_of_words, command_then, command_of_word}
use Rattle.t1_code.specs.Charstring.{charstring, command_bytes, number_bytes}

number_short : (z : ℤ) → length (number_bytes z) ≤ 5
number_short (pos n) = elim (cases_Bool (nat_le n 107)) [
  | inl e ↦ rw e (omega arith)
  | inr e ↦ rw e (elim (cases_Bool (nat_le n 1131)) [
    | inl f ↦ rw f (omega arith)
    | inr f ↦ rw f (omega arith)
  ])
]
number_short (negsuc m) = elim (cases_Bool (nat_le (m + 1) 107)) [
  | inl e ↦ rw e (omega arith)
  | inr e ↦ rw e (elim (cases_Bool (nat_le (m + 1) 1131)) [
    | inl f ↦ rw f (omega arith)
    | inr f ↦ rw f (omega arith)
  ])
]

command_short : (command : Command) → length (command_bytes command) ≤ 5
command_short (Num n) = number_short n
command_short HStem = omega arith
command_short VStem = omega arith
command_short VMoveTo = omega arith
command_short RLineTo = omega arith
command_short HLineTo = omega arith
command_short VLineTo = omega arith
command_short RRCurveTo = omega arith
command_short ClosePath = omega arith
command_short CallSubr = omega arith
command_short Return = omega arith
command_short DotSection = omega arith
command_short VStem3 = omega arith
command_short HStem3 = omega arith
command_short Seac = omega arith
command_short Sbw = omega arith
command_short Div = omega arith
command_short CallOtherSubr = omega arith
command_short Pop = omega arith
command_short SetCurrentPoint = omega arith
command_short Hsbw = omega arith
command_short EndChar = omega arith
command_short RMoveTo = omega arith
command_short HMoveTo = omega arith
command_short VHCurveTo = omega arith
command_short HVCurveTo = omega arith

charstring_short : (read : List Command) → length (charstring read) ≤ 5 * length read
charstring_short [] = omega arith
charstring_short (command ∷ read) =
    let one = command_short command in
    let more = charstring_short read in
    omega (arith, length-append (command_bytes command) (charstring read))

then_counts : (r : Result Command Code) (rs : Result (List Command) Code) (n : ℕ) (read : List Command)
    → ((ds : List Command) → rs ≡ Ok ds → length ds ≡ n) → command_then r rs ≡ Ok read → length read ≡ n + 1
then_counts (Ok c) (Ok ds) n read more h = let g : c ∷ ds ≡ read = cc in rw (sym g) (omega (arith, more ds refl))
then_counts (Ok c) (Err e) n read more h = absurd (cc)
then_counts (Err e) rs n read more h = absurd (cc)

words_count : (ws : List (List ℕ)) (read : List Command) → commands_of_words ws ≡ Ok read → length read ≡ length ws
words_count [] read h = let g : ◌≡◌ {A = List Command} [] read = cc in rw (sym g) refl
words_count (word ∷ ws) read h = omega (arith, then_counts (command_of_word word) (commands_of_words ws) (length ws) read (words_count ws) h)

-- a word's charstring has five bytes at most
pub compiled_short : (ws : List (List ℕ)) (read : List Command) → commands ws ≡ Ok read → length (charstring read) ≤ 5 * length ws
unfolding commands
compiled_short ws read h = elim (cases_Bool (nat_lt 65535 (length ws))) [
  | inl e ↦ (let f = rw e at h in absurd (cc))
  | inr e ↦ (let count = words_count ws read (rw e at h) in let short = charstring_short read in omega arith)
]
