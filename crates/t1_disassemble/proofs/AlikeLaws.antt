-- Items with their words in their plain spelling assemble to the same bytes.
use Rattle.std.proofs.Common.{◌≡◌, ℕ, ℤ, pos, negsuc, true, false, ◌^◌, List, [], ◌∷◌, ◌++◌, length, map, codes, Result, Ok, Err, refl, sym, ap, ◌∙◌, inl, inr, FitsSigned, w32}
use Rattle.std.proofs.lemmas.Bool.{cases_Bool, ltb-true}
use Rattle.std.proofs.lemmas.List.{length-map}
use Rattle.std.specs.Fmt.{decimal, signed_decimal}
use Rattle.std.specs.Prelude.{nat_lt, if◌then◌else◌}
use Rattle.t1_frac.specs.Outcome.{◌>>=◌}
use Rattle.t1_frac.specs.Numbers.{is_number_word, number_written}
use Rattle.t1_frac.specs.declared.fault.Code.{Code}
use Rattle.t1_frac.specs.declared.fault.Code.TheVariants.{F22}
use Rattle.t1_code.specs.declared.command.Command.{Command}
use Rattle.t1_code.specs.declared.command.Command.TheVariants.{Num}
use Rattle.t1_code.specs.Charstring.{charstring}
use Rattle.t1_code.specs.Cipher.{encrypted_charstring, encrypted_words}
use Rattle.t1_code.specs.Pfb.{entry_text}
use Rattle.t1_code.specs.Words.{commands, commands_of_words, command_of_word, command_then, number_of_word, number_command, in_32_bits, fits_32_bits}
use Rattle.t1_parts.specs.declared.item.Item.{Item}
use Rattle.t1_parts.specs.declared.item.Item.TheVariants.{Plain, Section, Subr, Glyph}
use Rattle.t1_disassemble.specs.Laws.{plain_word, plain_item, item_text, items_text}
use Rattle.t1_disassemble.proofs.PlainWords.{Compiled, compiled}
use Rattle.t1_disassemble.proofs.WordLaws.{number_said}

fits_from : (n : ℤ) → fits_32_bits n ≡ true → FitsSigned w32 n
fits_from (pos n) h = record { sfits = ltb-true n (2 ^ 31) h }
fits_from (negsuc n) h = record { sfits = ltb-true n (2 ^ 31) h }

number_alike : (n : ℤ) (c : Command) → number_command (in_32_bits n) ≡ Ok c → command_of_word (signed_decimal n) ≡ Ok c
number_alike n c h = elim (cases_Bool (fits_32_bits n)) [
  | inl t ↦ (let same : ◌≡◌ {A = Result Command Code} (Ok (Num n)) (Ok c) = rw t at h in number_said n (fits_from n t) ∙ same)
  | inr f ↦ (let off = rw f at h in absurd (cc))
]

plain_number : (w : List ℕ) → is_number_word w ≡ true → plain_word w ≡ signed_decimal (number_written w)
plain_number w t = rw t refl

plain_other : (w : List ℕ) → is_number_word w ≡ false → plain_word w ≡ w
plain_other w f = rw f refl

said_number : (w : List ℕ) (c : Command) → is_number_word w ≡ true → command_of_word w ≡ Ok c → number_command (in_32_bits (number_written w)) ≡ Ok c
unfolding command_of_word number_of_word
said_number w c t h = rw t at h

word_alike : (w : List ℕ) (c : Command) → command_of_word w ≡ Ok c → command_of_word (plain_word w) ≡ Ok c
word_alike w c h = elim (cases_Bool (is_number_word w)) [
  | inl t ↦ ap command_of_word (plain_number w t) ∙ number_alike (number_written w) c (said_number w c t h)
  | inr f ↦ ap command_of_word (plain_other w f) ∙ h
]

then_alike : (first second : Result Command Code) (others more : Result (List Command) Code) (cs : List Command) → ((c : Command) → first ≡ Ok c → second ≡ Ok c)
    → ((ds : List Command) → others ≡ Ok ds → more ≡ Ok ds) → command_then first others ≡ Ok cs → command_then second more ≡ Ok cs
then_alike (Ok c) second (Ok ds) more cs one rest h = rw (one c refl, rest ds refl) h
then_alike (Ok c) second (Err fault) more cs one rest h = absurd (cc)
then_alike (Err fault) second others more cs one rest h = absurd (cc)

words_alike : (ws : List (List ℕ)) (cs : List Command) → commands_of_words ws ≡ Ok cs → commands_of_words (map plain_word ws) ≡ Ok cs
words_alike [] cs h = h
words_alike (w ∷ ws) cs h =
    then_alike (command_of_word w) (command_of_word (plain_word w)) (commands_of_words ws) (commands_of_words (map plain_word ws)) cs (word_alike w) (words_alike ws) h

limited : (n : ℕ) (read : Result (List Command) Code) (cs : List Command) → (if nat_lt 65535 n then Err F22 else read) ≡ Ok cs → (nat_lt 65535 n ≡ false) × (read ≡ Ok cs)
limited n read cs h = elim (cases_Bool (nat_lt 65535 n)) [
  | inl t ↦ (let off = rw t at h in absurd (cc))
  | inr f ↦ (f, rw f at h)
]

pub commands_alike : (ws : List (List ℕ)) (cs : List Command) → commands ws ≡ Ok cs → commands (map plain_word ws) ≡ Ok cs
unfolding commands
commands_alike ws cs h =
    let parts = limited (length ws) (commands_of_words ws) cs h in
    let few : nat_lt 65535 (length (map plain_word ws)) ≡ false = ap (nat_lt 65535) (length-map ws plain_word) ∙ parts.0 in
    rw few (words_alike ws cs parts.1)

abbrev onto : ℕ → Result (List Command) Code → Result (List ℕ) Code
onto lead read = (read >>= λ cs. Ok (charstring cs)) >>= λ plain. Ok (encrypted_charstring lead plain)

is_onto : (lead : ℕ) (words : List (List ℕ)) → encrypted_words lead words ≡ onto lead (commands words)
unfolding encrypted_words
is_onto lead words = refl

encrypted_from : (lead : ℕ) (ws : List (List ℕ)) (code : List ℕ) → Compiled lead ws code → encrypted_words lead ws ≡ Ok code → encrypted_words lead (map plain_word ws) ≡ Ok code
encrypted_from lead ws code c e = is_onto lead (map plain_word ws) ∙ ap (onto lead) (commands_alike ws c.cs c.read ∙ sym c.read) ∙ sym (is_onto lead ws) ∙ e

encrypted_alike : (lead : ℕ) (ws : List (List ℕ)) (code : List ℕ) → encrypted_words lead ws ≡ Ok code → encrypted_words lead (map plain_word ws) ≡ Ok code
encrypted_alike lead ws code h = encrypted_from lead ws code (compiled lead ws code h) h

made_alike : (one other : Result (List ℕ) Code) (entry : List ℕ → List ℕ) (bytes : List ℕ) → ((code : List ℕ) → one ≡ Ok code → other ≡ Ok code)
    → (one >>= λ code. Ok (entry code)) ≡ Ok bytes → (other >>= λ code. Ok (entry code)) ≡ Ok bytes
made_alike (Ok code) other entry bytes same h = rw (same code refl) h
made_alike (Err fault) other entry bytes same h = absurd (cc)

item_alike : (lead : ℕ) (operator : List ℕ) (item : Item) (bytes : List ℕ) → item_text lead operator item ≡ Ok bytes → item_text lead operator (plain_item item) ≡ Ok bytes
item_alike lead operator (Plain line) bytes h = h
item_alike lead operator (Section before count after) bytes h = h
item_alike lead operator (Subr number words closing) bytes h =
    made_alike (encrypted_words lead words) (encrypted_words lead (map plain_word words)) (λ code. entry_text (codes "dup " ++ decimal number) operator code closing) bytes (encrypted_alike lead words) h
item_alike lead operator (Glyph name words closing) bytes h =
    made_alike (encrypted_words lead words) (encrypted_words lead (map plain_word words)) (λ code. entry_text (47 ∷ name) operator code closing) bytes (encrypted_alike lead words) h

both_alike : (one other first others : Result (List ℕ) Code) (bytes : List ℕ) → ((b : List ℕ) → one ≡ Ok b → other ≡ Ok b) → ((b : List ℕ) → first ≡ Ok b → others ≡ Ok b)
    → (one >>= λ text. first >>= λ texts. Ok (text ++ texts)) ≡ Ok bytes → (other >>= λ text. others >>= λ texts. Ok (text ++ texts)) ≡ Ok bytes
both_alike (Ok b) other (Ok d) others bytes p q h = rw (p b refl, q d refl) h
both_alike (Ok b) other (Err fault) others bytes p q h = absurd (cc)
both_alike (Err fault) other first others bytes p q h = absurd (cc)

pub items_alike : (lead : ℕ) (operator : List ℕ) (items : List Item) (bytes : List ℕ) → items_text lead operator items ≡ Ok bytes → items_text lead operator (map plain_item items) ≡ Ok bytes
items_alike lead operator [] bytes h = h
items_alike lead operator (item ∷ items) bytes h =
    both_alike (item_text lead operator item) (item_text lead operator (plain_item item)) (items_text lead operator items) (items_text lead operator (map plain_item items)) bytes
    (item_alike lead operator item) (items_alike lead operator items) h
