-- The digits at the front of a text, and the word that they begin.
use Rattle.std.proofs.Common.{codes, ◌≡◌, ℕ, ◌+◌, ◌<◌, ◌≤◌, Bool, true, false, not, ◌&&◌, ◌==◌, nat_lt, List, [], ◌∷◌, ◌++◌, length, zero, suc, Option, None, Some, MatchOption, Result, Ok, Err, min, subst, length-take-le, ◌-◌, ◌^◌, take, drop, length-take, refl, sym, ap, ◌∙◌, inl, inr, arith}
use Rattle.std.specs.List.{list_all, prefix_len, position_or_len}
use Rattle.std.specs.Char.{is_ascii_digit}
use Rattle.std.specs.Str.Parse.{starts_with_minus}
use Rattle.std.proofs.lemmas.Bool.{cases_Bool, and_parts, eqb-true, not-true, not-false, lt-ltb, le-ltb, cases_lt}
use Rattle.std.specs.Str.{bytes_eq}
use Rattle.std.specs.Map.{lookup}
use Rattle.std.specs.Borrow.{Bor}
use Rattle.std.proofs.lemmas.Slice.Eq.{bytes_eq-Decides}
use Rattle.std.proofs.lemmas.List.Sums.{prefix_len-le-length}
use Rattle.std.proofs.Math.ListN.{get_or}
use Rattle.std.proofs.Math.Numerals.{one-add}
use Rattle.std.proofs.Math.Seq.{drop-cons}
use Rattle.std.proofs.lemmas.List.{drop-drop, take-append-drop}
use Rattle.t1_frac.proofs.WordLaws.{front_stays, no_word_at, word_at, word_shortens}
use Rattle.t1_frac.specs.Words.{is_blank, trimmed_front, word_goes_on, words}
use Rattle.t1_code.specs.Words.{in_32_bits, number_command, number_of_word, operator_named, operator_words, or_unknown, command_of_word, command_then, commands_of_words}
use Rattle.t1_code.specs.FoundCommands.{first_word}
use Rattle.t1_frac.specs.Numbers.{digits_of_word, is_number_word, number_written, signed, decimal_value}
use Rattle.t1_code.specs.declared.command.Command.{Command}
use Rattle.t1_code.specs.declared.command.Command.TheVariants.{Div}
use Rattle.t1_frac.specs.declared.fault.Code.{Code}
use Rattle.t1_frac.specs.declared.fault.Code.TheVariants.{F20, F21}

and_false : (b : Bool) → (b && false) ≡ false
and_false true = refl
and_false false = refl

differs : (c d : ℕ) → is_ascii_digit c ≡ true → is_ascii_digit d ≡ false → (c == d) ≡ false
differs c d h k = elim (cases_Bool (c == d)) [
  | inl same ↦ (let g : true ≡ false = sym h ∙ ap is_ascii_digit (eqb-true c d same) ∙ k in absurd (cc))
  | inr other ↦ other
]

pub digit_no_blank : (c : ℕ) → is_ascii_digit c ≡ true → is_blank c ≡ false
digit_no_blank c h = rw (differs c 0 h refl, differs c 9 h refl, differs c 10 h refl, differs c 12 h refl, differs c 13 h refl, differs c 32 h refl) refl

-- the digits end with the word
word_end : (text : List ℕ) → word_goes_on (drop (prefix_len is_ascii_digit text) text) ≡ false → position_or_len is_blank text ≡ prefix_len is_ascii_digit text
word_end [] h = refl
word_end (c ∷ text) h = elim (cases_Bool (is_ascii_digit c)) [
  | inl e ↦ rw (e, digit_no_blank c e) (ap (λ n. 1 + n) (word_end text (rw (e, one-add) at h)))
  | inr e ↦ (let g : not (is_blank c) ≡ false = rw e at h in rw (e, not-false (is_blank c) g) refl)
]

-- where they don't, the word has another byte
other_byte : (text : List ℕ) → word_goes_on (drop (prefix_len is_ascii_digit text) text) ≡ true → list_all is_ascii_digit (take (position_or_len is_blank text) text) ≡ false
other_byte [] h = absurd (cc)
other_byte (c ∷ text) h = elim (cases_Bool (is_ascii_digit c)) [
  | inl e ↦ (let g = other_byte text (rw (e, one-add) at h) in rw (digit_no_blank c e, one-add, e) g)
  | inr e ↦ (let g : not (is_blank c) ≡ true = rw e at h in rw (not-true (is_blank c) g, one-add, e) refl)
]

-- the digits at the front
all_digits : (text : List ℕ) → list_all is_ascii_digit (take (prefix_len is_ascii_digit text) text) ≡ true
all_digits [] = refl
all_digits (c ∷ text) = elim (cases_Bool (is_ascii_digit c)) [
  | inl e ↦ (let g = all_digits text in rw (e, one-add, e) g)
  | inr e ↦ rw e refl
]

-- ---- the sign of the first word

first_split : (text : List ℕ) → (digits_of_word (first_word text) ≡ first_word (digits_of_word text))
    × (starts_with_minus (first_word text) ≡ starts_with_minus text)
    × (drop (position_or_len is_blank text) text ≡ drop (position_or_len is_blank (digits_of_word text)) (digits_of_word text))
first_split [] = (refl, refl, refl)
first_split (c ∷ text) = elim (cases_Bool (c == 45)) [
  | inl e ↦ rw (eqb-true c 45 e, one-add) (refl, refl, refl)
  | inr e ↦ elim (cases_Bool (is_blank c)) [
    | inl blank ↦ rw (e, blank) (refl, refl, refl)
    | inr other ↦ rw (e, other, one-add, e) (refl, refl, refl)
  ]
]

-- a text that begins with a minus or a digit
no_blank_first : (c : ℕ) (text : List ℕ) → 0 < prefix_len is_ascii_digit (digits_of_word (c ∷ text)) → is_blank c ≡ false
no_blank_first c text some = elim (cases_Bool (c == 45)) [
  | inl e ↦ rw (eqb-true c 45 e) refl
  | inr e ↦ (let more : 0 < prefix_len is_ascii_digit (c ∷ text) = rw e at some in
      elim (cases_Bool (is_ascii_digit c)) [
        | inl digit ↦ digit_no_blank c digit
        | inr other ↦ (let none : 0 < 0 = rw other at more in absurd (omega arith))
      ])
]

number_from : (word digits : List ℕ) → digits_of_word word ≡ digits → 0 < length digits → list_all is_ascii_digit digits ≡ true → is_number_word word ≡ true
unfolding is_number_word
number_from word digits e some all = rw (e, lt-ltb 0 (length digits) some, all) refl

-- the first word is a number word where digits are all that it has after its minus
pub number_first : (text : List ℕ) → 0 < prefix_len is_ascii_digit (digits_of_word text) → word_goes_on (drop (prefix_len is_ascii_digit (digits_of_word text)) (digits_of_word text)) ≡ false
    → (is_number_word (first_word text) ≡ true)
    × (number_written (first_word text) ≡ signed (starts_with_minus text) (decimal_value (take (prefix_len is_ascii_digit (digits_of_word text)) (digits_of_word text))))
    × (words text ≡ first_word text ∷ words (drop (prefix_len is_ascii_digit (digits_of_word text)) (digits_of_word text)))
number_first [] some ends = absurd (omega arith)
number_first (c ∷ rest) some ends =
    let text = c ∷ rest in
    let digits = digits_of_word text in
    let n = prefix_len is_ascii_digit digits in
    let parts = first_split text in
    let end = word_end digits ends in
    let found : digits_of_word (first_word text) ≡ take n digits = parts.0 ∙ ap (λ k. take k digits) end in
    let long : 0 < length (take n digits) = rw (length-take n digits) (omega (arith, prefix_len-le-length is_ascii_digit digits)) in
    let split = word_at text text (sym (rw (no_blank_first c rest some) refl)) (omega arith) in (
      number_from (first_word text) (take n digits) found long (all_digits digits),
      ap (λ minus. signed minus (decimal_value (digits_of_word (first_word text)))) parts.1 ∙ ap (λ l. signed (starts_with_minus text) (decimal_value l)) found,
      split ∙ ap (λ l. first_word text ∷ words l) (parts.2 ∙ ap (λ k. drop k digits) end),
    )

not_number : (word digits : List ℕ) → digits_of_word word ≡ digits → list_all is_ascii_digit digits ≡ false → is_number_word word ≡ false
unfolding is_number_word
not_number word digits e other = rw (e, other) (and_false (nat_lt 0 (length digits)))

no_number : (word : List ℕ) → digits_of_word word ≡ [] → is_number_word word ≡ false
unfolding is_number_word
no_number word e = rw e refl

-- the first word has another byte after its digits, or no digit
pub other_first : (text : List ℕ) → word_goes_on (drop (prefix_len is_ascii_digit (digits_of_word text)) (digits_of_word text)) ≡ true → is_number_word (first_word text) ≡ false
other_first text on = not_number (first_word text) (first_word (digits_of_word text)) (first_split text).0 (other_byte (digits_of_word text) on)

pub empty_first : (text : List ℕ) → prefix_len is_ascii_digit (digits_of_word text) ≡ 0 → is_number_word (first_word text) ≡ false
empty_first text none = elim (cases_Bool (word_goes_on (digits_of_word text))) [
  | inl on ↦ other_first text (rw none on)
  | inr off ↦ (
      let end = word_end (digits_of_word text) (rw none off) in
      no_number (first_word text) ((first_split text).0 ∙ ap (λ k. take k (digits_of_word text)) (end ∙ none)))
]

-- ---- what the first word says

minus_is_shorter : (text : List ℕ) → nat_lt (length (digits_of_word text)) (length text) ≡ starts_with_minus text
minus_is_shorter [] = refl
minus_is_shorter (c ∷ text) = elim (cases_Bool (c == 45)) [
  | inl e ↦ rw e (lt-ltb (length text) (length (c ∷ text)) (omega arith))
  | inr e ↦ rw e (le-ltb (length (c ∷ text)) (length (c ∷ text)) (omega arith))
]

too_large : (minus : Bool) (size : ℕ) → 2 ^ 31 < size → in_32_bits (signed minus size) ≡ Err F21
too_large false size h = rw (le-ltb size (2 ^ 31) (omega (arith, h))) refl
too_large true zero h = absurd (omega (arith, h))
too_large true (suc size) h = rw (le-ltb size (2 ^ 31) (omega (arith, h))) refl

capped_size : (minus : Bool) (size : ℕ) → in_32_bits (signed minus (min size (2 ^ 64 - 1))) ≡ in_32_bits (signed minus size)
capped_size minus size = elim (cases_lt size (2 ^ 64)) [
  | inl p ↦ (let e : min size (2 ^ 64 - 1) ≡ size = omega (arith, p) in rw e refl)
  | inr p ↦ (let e : min size (2 ^ 64 - 1) ≡ 2 ^ 64 - 1 = omega (arith, p) in
      rw e (too_large minus (2 ^ 64 - 1) (omega arith) ∙ sym (too_large minus size (omega (arith, p)))))
]

number_said : (text : List ℕ) (size : ℕ) → is_number_word (first_word text) ≡ true → number_written (first_word text) ≡ signed (starts_with_minus text) size
    → number_command (in_32_bits (signed (nat_lt (length (digits_of_word text)) (length text)) (min size (2 ^ 64 - 1)))) ≡ command_of_word (first_word text)
unfolding command_of_word number_of_word
number_said text size is_number written =
    rw (is_number, written, minus_is_shorter text, capped_size (starts_with_minus text) size) refl

-- the number at the front of a text, as the code finds it
pub leading_said : (text : List ℕ) (n size : ℕ) → n ≡ prefix_len is_ascii_digit (digits_of_word text) → 0 < n → word_goes_on (drop n (digits_of_word text)) ≡ false
    → size ≡ min (decimal_value (take n (digits_of_word text))) (2 ^ 64 - 1)
    → (number_command (in_32_bits (signed (nat_lt (length (digits_of_word text)) (length text)) size)) ≡ command_of_word (first_word text))
    × (words text ≡ first_word text ∷ words (drop n (digits_of_word text)))
leading_said text n size e some ends is =
    let found = number_first text (omega (arith, e)) (rw (← e) ends) in (
      rw is (number_said text (decimal_value (take n (digits_of_word text))) found.0 (found.1 ∙ rw (← e) refl)),
      found.2 ∙ rw (← e) refl,
    )

pub leading_found : (text digits after : List ℕ) (n size : ℕ) → digits ≡ digits_of_word text → n ≡ prefix_len is_ascii_digit digits → 0 < n → after ≡ drop n digits
    → word_goes_on after ≡ false → size ≡ min (decimal_value (take n digits)) (2 ^ 64 - 1)
    → (number_command (in_32_bits (signed (nat_lt (length digits) (length text)) size)) ≡ command_of_word (first_word text))
    × (words text ≡ first_word text ∷ words after)
leading_found text digits after n size d e some a ends is =
    let said = leading_said text n size (e ∙ ap (prefix_len is_ascii_digit) d) some (rw (← d, ← a) ends) (is ∙ ap (λ l. min (decimal_value (take n l)) (2 ^ 64 - 1)) d) in (
      ap (λ l. number_command (in_32_bits (signed (nat_lt (length l) (length text)) size))) d ∙ said.0,
      said.1 ∙ ap (λ l. first_word text ∷ words l) (ap (drop n) (sym d) ∙ sym a),
    )

pub other_found : (text digits after : List ℕ) (n : ℕ) → digits ≡ digits_of_word text → n ≡ prefix_len is_ascii_digit digits → after ≡ drop n digits
    → word_goes_on after ≡ true → is_number_word (first_word text) ≡ false
other_found text digits after n d e a on = other_first text (rw (← d, ← e, ← a) on)

pub trimmed_once : (line rest : List ℕ) → rest ≡ trimmed_front line → rest ≡ trimmed_front rest
trimmed_once line [] e = refl
trimmed_once line (c ∷ rest) e = sym (rw (front_stays line c rest e) refl)

pub words_trimmed : (line rest : List ℕ) → rest ≡ trimmed_front line → words line ≡ words rest
words_trimmed line [] e = no_word_at line [] e refl
words_trimmed line (c ∷ rest) e =
    word_at line (c ∷ rest) e (omega arith) ∙ sym (word_at (c ∷ rest) (c ∷ rest) (trimmed_once line (c ∷ rest) e) (omega arith))

-- a text that begins with a number, and a line that begins with another word
pub number_text : (text after : List ℕ) (command : Result Command Code) → command ≡ command_of_word (first_word text) → words text ≡ first_word text ∷ words after
    → commands_of_words (words text) ≡ command_then command (commands_of_words (words after))
number_text text after command is split = ap commands_of_words split ∙ ap (λ c. command_then c (commands_of_words (words after))) (sym is)

other_word : (word : List ℕ) (command : Result Command Code) → is_number_word word ≡ false → command ≡ or_unknown (operator_named word) → command ≡ command_of_word word
unfolding command_of_word
other_word word command h is = is ∙ rw h refl

pub named_line : (line rest word after : List ℕ) (command : Result Command Code) → rest ≡ trimmed_front line → is_number_word (first_word rest) ≡ false
    → words rest ≡ word ∷ words after → command ≡ or_unknown (operator_named word)
    → commands_of_words (words line) ≡ command_then command (commands_of_words (words after))
named_line line [] word after command e other split is = absurd (cc)
named_line line (c ∷ rest) word after command e other split is =
    let first = word_at (c ∷ rest) (c ∷ rest) (trimmed_once line (c ∷ rest) e) (omega arith) in
    let same : first_word (c ∷ rest) ≡ word = cc in
    ap commands_of_words (words_trimmed line (c ∷ rest) e ∙ split)
    ∙ ap (λ x. command_then x (commands_of_words (words after))) (sym (other_word word command (ap is_number_word (sym same) ∙ other) is))

-- ---- the first word of a text against another word

word_stops : (text : List ℕ) → word_goes_on (drop (position_or_len is_blank text) text) ≡ false
word_stops [] = refl
word_stops (c ∷ text) = elim (cases_Bool (is_blank c)) [
  | inl blank ↦ rw blank (ap not blank)
  | inr other ↦ rw (other, one-add) (word_stops text)
]

word_within : (text : List ℕ) → position_or_len is_blank text ≤ length text
word_within [] = omega arith
word_within (c ∷ text) = elim (cases_Bool (is_blank c)) [
  | inl blank ↦ rw blank (omega arith)
  | inr other ↦ (let more = word_within text in rw other (omega (arith, more)))
]

word_len : (word text : List ℕ) → first_word text ≡ word → position_or_len is_blank text ≡ length word
word_len word text e = sym (length-take-le (position_or_len is_blank text) text (word_within text)) ∙ ap length e

-- a text that begins with a word, which ends there
word_begins : (word text : List ℕ) → list_all (λ c. not (is_blank c)) word ≡ true → take (length word) text ≡ word → word_goes_on (drop (length word) text) ≡ false → position_or_len is_blank text ≡ length word
word_begins [] [] all h ends = refl
word_begins [] (c ∷ text) all h ends = rw (not-false (is_blank c) ends) refl
word_begins (b ∷ word) [] all h ends = absurd (cc)
word_begins (b ∷ word) (c ∷ text) all h ends =
    let first : c ≡ b = cc in
    let rest : take (length word) text ≡ word = cc in
    let parts = and_parts (not (is_blank b)) (list_all (λ d. not (is_blank d)) word) all in
    let other : is_blank c ≡ false = ap is_blank first ∙ not-true (is_blank b) parts.0 in
    let more = word_begins word text parts.1 rest ends in
    rw other (omega (arith, more))

pub word_found : (word text after : List ℕ) → list_all (λ c. not (is_blank c)) word ≡ true → bytes_eq (take (length word) text) word ≡ true → after ≡ drop (length word) text
    → word_goes_on after ≡ false → (bytes_eq (first_word text) word ≡ true) × (after ≡ drop (position_or_len is_blank text) text)
word_found word text after all h a ends =
    let front = (bytes_eq-Decides (take (length word) text) word).0 h in
    let size = word_begins word text all front (ap word_goes_on (sym a) ∙ ends) in (
      (bytes_eq-Decides (first_word text) word).1 (ap (λ n. take n text) size ∙ front),
      a ∙ ap (λ n. drop n text) (sym size),
    )

pub word_goes_further : (word text after : List ℕ) → after ≡ drop (length word) text → word_goes_on after ≡ true → bytes_eq (first_word text) word ≡ false
word_goes_further word text after a on = elim (cases_Bool (bytes_eq (first_word text) word)) [
  | inr other ↦ other
  | inl same ↦ (let size = word_len word text ((bytes_eq-Decides (first_word text) word).0 same) in
      let off : true ≡ false = sym on ∙ ap word_goes_on a ∙ ap (λ n. word_goes_on (drop n text)) (sym size) ∙ word_stops text in
      absurd (cc))
]

-- ---- a line whose first word is no number

some_word : (rest : List ℕ) (command : Command) → operator_named (first_word rest) ≡ Some command → 0 < length rest
unfolding operator_named operator_words
some_word [] command h = absurd (cc)
some_word (c ∷ rest) command h = omega arith

pub first_named : (line rest after : List ℕ) (command : Command) → rest ≡ trimmed_front line → is_number_word (first_word rest) ≡ false
    → operator_named (first_word rest) ≡ Some command → after ≡ drop (position_or_len is_blank rest) rest
    → (commands_of_words (words line) ≡ command_then (Ok command) (commands_of_words (words after))) × (length after < length line)
first_named line rest after command e other is a =
    let some = some_word rest command is in (
      named_line line rest (first_word rest) after (Ok command) e other (word_at rest rest (trimmed_once line rest e) some ∙ ap (λ l. first_word rest ∷ words l) (sym a)) (sym (ap or_unknown is)),
      subst (λ l. length l < length line) (sym a) (word_shortens line rest e some),
    )

pub first_unknown : (line rest word after : List ℕ) → rest ≡ trimmed_front line → is_number_word (first_word rest) ≡ false
    → operator_named (first_word rest) ≡ None → words rest ≡ word ∷ words after → commands_of_words (words line) ≡ command_then (Err F20) (commands_of_words (words after))
first_unknown line [] word after e other is split = absurd (cc)
first_unknown line (c ∷ rest) word after e other is split =
    let first = word_at (c ∷ rest) (c ∷ rest) (trimmed_once line (c ∷ rest) e) (omega arith) in
    let same : first_word (c ∷ rest) ≡ word = cc in
    named_line line (c ∷ rest) word after (Err F20) e other split (sym (ap or_unknown (ap operator_named (sym same) ∙ is)))

-- ---- past the blank that ends a word

pub past_blank : (text after : List ℕ) → word_goes_on text ≡ false → after ≡ drop 1 text → words after ≡ words text
past_blank [] after ends a = ap words a
past_blank (c ∷ text) after ends a = ap words a ∙ sym (rw (not-false (is_blank c) ends) refl)

past_shortens : (text after : List ℕ) → after ≡ drop 1 text → length after ≤ length text
past_shortens [] after a = rw a (omega arith)
past_shortens (c ∷ text) after a = rw a (omega arith)

pub past_number : (text end after : List ℕ) → words text ≡ first_word text ∷ words end → word_goes_on end ≡ false → after ≡ drop 1 end → words text ≡ first_word text ∷ words after
past_number text end after split ends a = split ∙ ap (λ ws. first_word text ∷ ws) (sym (past_blank end after ends a))

pub past_named : (line rest after : List ℕ) (command : Command) → rest ≡ trimmed_front line → is_number_word (first_word rest) ≡ false
    → operator_named (first_word rest) ≡ Some command → after ≡ drop 1 (drop (position_or_len is_blank rest) rest)
    → (commands_of_words (words line) ≡ command_then (Ok command) (commands_of_words (words after))) × (length after < length line)
past_named line rest after command e other is a =
    let end = drop (position_or_len is_blank rest) rest in
    let found = first_named line rest end command e other is refl in
    let less = past_shortens end after a in (
      found.0 ∙ ap (λ ws. command_then (Ok command) (commands_of_words ws)) (sym (past_blank end after (word_stops rest) a)),
      omega (arith, found.1, less),
    )

-- no number word names a command
no_number_among : (word : List ℕ) (command : Command) (rows : List (List ℕ × Command)) → list_all (λ row. not (is_number_word row.0)) rows ≡ true → lookup (bytes_eq word) rows ≡ Some command → is_number_word word ≡ false
no_number_among word command [] all is = absurd (cc)
no_number_among word command (row ∷ rows) all is =
    let parts = and_parts (not (is_number_word row.0)) (list_all (λ r. not (is_number_word r.0)) rows) all in
    elim (cases_Bool (bytes_eq word row.0)) [
      | inl same ↦ ap is_number_word ((bytes_eq-Decides word row.0).0 same) ∙ not-true (is_number_word row.0) parts.0
      | inr other ↦ no_number_among word command rows parts.1 (rw other at is)
    ]

pub no_number_named : (word : List ℕ) (command : Command) → operator_named word ≡ Some command → is_number_word word ≡ false
unfolding operator_named operator_words is_number_word
no_number_named word command is = no_number_among word command operator_words refl is

-- past `div`
pub past_div : (rest after : List ℕ) → rest ≡ trimmed_front rest → bytes_eq (first_word rest) (codes "div") ≡ true
    → after ≡ drop 1 (drop (position_or_len is_blank rest) rest)
    → (commands_of_words (words rest) ≡ command_then (Ok Div) (commands_of_words (words after))) × (length after < length rest)
unfolding operator_named operator_words
past_div rest after e same a =
    let named = ap operator_named ((bytes_eq-Decides (first_word rest) (codes "div")).0 same) in
    past_named rest rest after Div e (no_number_named (first_word rest) Div named) named a

-- what is past a word that a text begins with, where the word ends there
pub past_word : (word text end : List ℕ) (past : Option (Bor (List ℕ))) → list_all (λ c. not (is_blank c)) word ≡ true → bytes_eq (take (length word) text) word ≡ true → end ≡ drop (length word) text
    → MatchOption past (word_goes_on end ≡ true) (λ after. (word_goes_on end ≡ false) × (after.now ≡ drop 1 end))
    → MatchOption past (bytes_eq (first_word text) word ≡ false) (λ after. (bytes_eq (first_word text) word ≡ true) × (after.now ≡ drop 1 (drop (position_or_len is_blank text) text)))
past_word word text end None all h e on = word_goes_further word text end e on
past_word word text end (Some after) all h e off =
    let found = word_found word text end all h e off.0 in (found.0, off.1 ∙ ap (drop 1) found.1)

pub past_array : (n : ℕ) (word text front end : List ℕ) (same : Bool) (past : Option (Bor (List ℕ))) → length word ≡ n → list_all (λ c. not (is_blank c)) word ≡ true
    → front ≡ take n text → end ≡ drop n text → same ≡ bytes_eq front word → same ≡ true
    → MatchOption past (word_goes_on end ≡ true) (λ after. (word_goes_on end ≡ false) × (after.now ≡ drop 1 end))
    → MatchOption past (bytes_eq (first_word text) word ≡ false) (λ after. (bytes_eq (first_word text) word ≡ true) × (after.now ≡ drop 1 (drop (position_or_len is_blank text) text)))
past_array n word text front end same past len all f e is on =
    past_word word text end past all (ap (λ l. bytes_eq l word) (ap (λ k. take k text) len ∙ sym f) ∙ sym is ∙ on) (e ∙ ap (λ k. drop k text) (sym len))

-- two texts of five to nine bytes are the same where their first four, their fifth and their last four are
pub ends_join : (one other : List ℕ) → length one ≡ length other → 5 ≤ length one → length one ≤ 9 → take 4 one ≡ take 4 other → get_or one 4 0 ≡ get_or other 4 0
    → drop (length one - 4) one ≡ drop (length other - 4) other → one ≡ other
ends_join one other same long short front fifth back =
    let n = length one in
    let k = 9 - n in
    let five : 5 ≡ (n - 4) + k = omega (arith, long, short) in
    let past : (l : List ℕ) → drop 5 l ≡ drop k (drop (n - 4) l) = λ l. ap (λ i. drop i l) five ∙ sym (drop-drop k (n - 4) l) in
    let ends : drop (n - 4) one ≡ drop (n - 4) other = back ∙ ap (λ m. drop (m - 4) other) (sym same) in
    let rest : drop 5 one ≡ drop 5 other = past one ∙ ap (drop k) ends ∙ sym (past other) in
    let after : drop 4 one ≡ drop 4 other =
    drop-cons one 4 0 (omega (arith, long)) ∙ ap (λ x. x ∷ drop 5 one) fifth ∙ ap (λ l. get_or other 4 0 ∷ l) rest ∙ sym (drop-cons other 4 0 (omega (arith, long, same))) in
    sym (take-append-drop 4 one) ∙ ap (λ l. l ++ drop 4 one) front ∙ ap (λ l. take 4 other ++ l) after ∙ take-append-drop 4 other
