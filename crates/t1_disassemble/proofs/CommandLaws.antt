-- Commands that bytes spell, and their printed words read again.
use Rattle.std.proofs.Common.{◌≡◌, ℕ, ℤ, suc, pos, Bool, true, false, ◌==◌, ◌≤◌, ◌<◌, ◌^◌, ◌-ℤ◌, List, [], ◌∷◌, ◌++◌, length, take, drop, map, nat_eq, Ok, Some, FitsSigned, w32, negsuc, refl, sym, ap, ◌∙◌, inl, inr, arith, lit<}
use Rattle.std.proofs.lemmas.Bool.{and_parts, and_from, cases_Bool, leb-true, le-ltb, ne_eqb}
use Rattle.std.proofs.lemmas.List.{take-append-drop}
use Rattle.std.specs.Char.{is_ascii_digit}
use Rattle.std.specs.Fmt.{decimal, signed_decimal}
use Rattle.std.specs.List.{list_all}
use Rattle.std.specs.Map.{lookup}
use Rattle.std.specs.Prelude.{if◌then◌else◌, nat_le}
use Rattle.t1_frac.specs.Numbers.{is_number_word}
use Rattle.t1_frac.specs.Outcome.{reported_at}
use Rattle.t1_frac.specs.Words.{words}
use Rattle.t1_frac.specs.declared.fault.Place.TheVariants.{Nowhere}
use Rattle.t1_frac.proofs.AppendLaws.{words_apart}
use Rattle.t1_text.proofs.NumberLaws.{decimal_spells}
use Rattle.t1_code.specs.declared.command.Command.{Command}
use Rattle.t1_code.specs.declared.command.Command.TheVariants.{Num, EndChar}
use Rattle.t1_code.specs.Charstring.{AllFit, Fits32Bits}
use Rattle.t1_code.specs.FoundCommands.{after_others}
use Rattle.t1_code.specs.Words.{commands, commands_of_words}
use Rattle.t1_parts.specs.Entries.{is_word_byte, is_word}
use Rattle.t1_parts.proofs.BodyLaws.{words_joined}
use Rattle.t1_disassemble.specs.CommandWords.{command_word}
use Rattle.t1_disassemble.specs.KnownCommands.{IsKnownCommand}
use Rattle.t1_disassemble.specs.Words.{one_byte_words, word_at, words_of, printed_words}
use Rattle.t1_disassemble.proofs.KnownWordLaws.{number_read, command_read}
use Rattle.t1_disassemble.proofs.PlainWords.{printed_number, printed_other}
use Rattle.t1_disassemble.proofs.WordLaws.{commands_said, one_word}

-- ---- a command's word is one

digit_in_word : (d : ℕ) → is_ascii_digit d ≡ true → is_word_byte d ≡ true
digit_in_word d h =
    let parts = and_parts (nat_le 48 d) (nat_le d 57) h in
    let low : 48 ≤ d = leb-true 48 d parts.0 in
    let high : d ≤ 57 = leb-true d 57 parts.1 in
    rw (ne_eqb d 0 (omega (arith, low)), ne_eqb d 9 (omega (arith, low)), ne_eqb d 10 (omega (arith, low)), ne_eqb d 12 (omega (arith, low)), ne_eqb d 13 (omega (arith, low)), ne_eqb d 32 (omega (arith, low)), ne_eqb d 37 (omega (arith, low)), ne_eqb d 123 (omega (arith, high)), ne_eqb d 125 (omega (arith, high))) refl

digits_in_word : (ds : List ℕ) → list_all is_ascii_digit ds ≡ true → list_all is_word_byte ds ≡ true
digits_in_word [] h = refl
digits_in_word (d ∷ ds) h =
    let parts = and_parts (is_ascii_digit d) (list_all is_ascii_digit ds) h in
    and_from (is_word_byte d) (list_all is_word_byte ds) (digit_in_word d parts.0) (digits_in_word ds parts.1)

some_word : (w : List ℕ) → 1 ≤ length w → list_all is_word_byte w ≡ true → is_word w ≡ true
some_word [] some h = absurd (omega (arith, some))
some_word (c ∷ w) some h = h

number_in_word : (n : ℤ) → FitsSigned w32 n → is_word (signed_decimal n) ≡ true
number_in_word (pos n) fits =
    let small : n < 2 ^ 64 = omega (arith, fits.sfits) in
    let s = decimal_spells n small in
    some_word (decimal n) s.2 (digits_in_word (decimal n) s.0)
number_in_word (negsuc n) fits =
    let small : suc n < 2 ^ 64 = omega (arith, fits.sfits) in
    let s = decimal_spells (suc n) small in
    digits_in_word (decimal (suc n)) s.0

command_is_word : (c : Command) → Fits32Bits c → is_word (command_word c) ≡ true
command_is_word (Num n) fits = number_in_word n fits
command_is_word c fits = refl

-- ---- printed words are read again

alone : (w : List ℕ) → is_word w ≡ true → words w ≡ w ∷ []
alone w h = words_joined (w ∷ []) (and_from (is_word w) true h refl)

blank_front : (is_open : Bool) (l : List ℕ) → words ((if is_open then 32 else 9) ∷ l) ≡ words l
blank_front true l = refl
blank_front false l = refl

after_word : (w : List ℕ) (ws : List (List ℕ)) → is_word w ≡ true → words (w ++ printed_words true ws) ≡ w ∷ words (printed_words true ws)
after_word w [] h = words_apart w 10 [] refl ∙ ap (λ (l : List (List ℕ)). l ++ []) (alone w h)
after_word w (v ∷ vs) h =
    let rest = v ++ (if is_number_word v then printed_words true vs else 10 ∷ printed_words false vs) in
    words_apart w 32 rest refl ∙ ap (λ (l : List (List ℕ)). l ++ words rest) (alone w h)

pub printed_again : (is_open : Bool) (cs : List Command) → AllFit cs → words (printed_words is_open (map command_word cs)) ≡ map command_word cs
printed_again true [] fits = refl
printed_again false [] fits = refl
printed_again is_open (c ∷ cs) fits =
    let w = command_word c in
    let ws = map command_word cs in
    let is = command_is_word c fits.0 in
    elim (cases_Bool (is_number_word w)) [
      | inl t ↦
          ap words (printed_number is_open w ws t) ∙ blank_front is_open (w ++ printed_words true ws) ∙ after_word w ws is
          ∙ ap (λ (l : List (List ℕ)). w ∷ l) (printed_again true cs fits.1)
      | inr f ↦
          ap words (printed_other is_open w ws f) ∙ blank_front is_open (w ++ 10 ∷ printed_words false ws) ∙ words_apart w 10 (printed_words false ws) refl
          ∙ ap (λ (l : List (List ℕ)). l ++ words (printed_words false ws)) (alone w is) ∙ ap (λ (l : List (List ℕ)). w ∷ l) (printed_again false cs fits.1)
    ]

-- ---- the commands of a byte

pub number_known : (v : ℕ) (n : ℤ) → 32 ≤ v → v < 247 → n ≡ pos v -ℤ pos 139 → FitsSigned w32 n → IsKnownCommand v (Num n)
number_known v n low high e fits = record { read = λ rest. number_read v n rest low high e; fits = fits }

pub command_known : (v : ℕ) (c : Command) → v < 32 → (v == 12) ≡ false → lookup (nat_eq v) one_byte_words ≡ Some (command_word c) → Fits32Bits c → IsKnownCommand v c
command_known v c small alone found fits = record { read = λ rest. command_read v (command_word c) rest small alone found; fits = fits }

pub endchar_known : IsKnownCommand 14 EndChar
endchar_known = command_known 14 EndChar (lit< tt) refl refl tt

-- ---- one command after another

-- so far these commands were read, and the words of these bytes are left
abbrev pub Read : List ℕ → List Command → List ℕ → Type 0
Read code commands rest = (ws : List (List ℕ)) → words_of rest ≡ Ok ws → words_of code ≡ Ok (map command_word commands ++ ws)

pub none_read : (code : List ℕ) → Read code [] code
none_read code ws h = h

map_more : (cs : List Command) (c : Command) (ws : List (List ℕ)) → map command_word cs ++ command_word c ∷ ws ≡ map command_word (cs ++ c ∷ []) ++ ws
map_more [] c ws = refl
map_more (d ∷ cs) c ws = ap (λ (l : List (List ℕ)). command_word d ∷ l) (map_more cs c ws)

pub one_read : (code : List ℕ) (cs : List Command) (v : ℕ) (rest after : List ℕ) (c : Command) → word_at v rest ≡ Ok (command_word c, after) → Read code cs (v ∷ rest) → Read code (cs ++ c ∷ []) after
one_read code cs v rest after c is before ws h =
    before (command_word c ∷ ws) (one_word (v ∷ rest) (command_word c) after is ∙ rw h refl) ∙ ap Ok (map_more cs c ws)

pub more_fit : (cs : List Command) (c : Command) → AllFit cs → Fits32Bits c → AllFit (cs ++ c ∷ [])
more_fit [] c fits is = (is, tt)
more_fit (d ∷ cs) c fits is = (fits.0, more_fit cs c fits.1 is)

-- those behind others, with one more
pub behind_more : (others all : List Command) (c : Command) → take (length others) all ≡ others → drop (length others) (all ++ c ∷ []) ≡ drop (length others) all ++ c ∷ []
behind_more [] all c h = refl
behind_more (o ∷ others) [] c h = absurd (cc)
behind_more (o ∷ others) (a ∷ all) c h = behind_more others all c (ap (drop 1) h)

pub front_more : (others all : List Command) (c : Command) → take (length others) all ≡ others → take (length others) (all ++ c ∷ []) ≡ others
front_more [] all c h = refl
front_more (o ∷ others) [] c h = absurd (cc)
front_more (o ∷ others) (a ∷ all) c h = let first : a ∷ take (length others) all ≡ o ∷ others = h in ap (λ (l : List Command). a ∷ l) (front_more others all c (ap (drop 1) h)) ∙ (let is : a ≡ o = cc in ap (λ x. x ∷ others) is)

-- what was added is the compiled body
pub compiled : (old new : List Command) (ws : List (List ℕ)) → length ws ≤ 65535 → ws ≡ map command_word (drop (length old) new) → AllFit (drop (length old) new) → take (length old) new ≡ old
    → reported_at Nowhere (after_others old (commands ws)) ≡ Ok new
unfolding commands
compiled old new ws few same fits front =
    let added = drop (length old) new in
    let all : commands_of_words ws ≡ Ok added = ap commands_of_words same ∙ commands_said added fits in
    rw (le-ltb 65535 (length ws) few, all) (ap Ok (ap (λ (l : List Command). l ++ added) (sym front) ∙ take-append-drop (length old) new))
