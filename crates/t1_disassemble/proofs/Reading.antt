-- The words of a charstring, one after another.
use Rattle.std.proofs.Common.{◌≡◌, if◌then◌else◌, ℕ, ℤ, suc, Bool, true, ltb, ◌==◌, ◌-◌, ◌<◌, ◌^◌, List, [], ◌∷◌, ◌++◌, length, Result, Ok, Err, Option, None, Some, refl, sym, ap, ◌∙◌, append_assoc, append-nil, inl, inr, arith, pos, negsuc, FitsSigned, w32}
use Rattle.std.proofs.lemmas.Bool.{cases_Bool}
use Rattle.std.specs.Fmt.{decimal, signed_decimal}
use Rattle.std.specs.Map.{lookup}
use Rattle.std.specs.Prelude.{nat_eq}
use Rattle.t1_frac.specs.Outcome.{◌>>=◌}
use Rattle.t1_frac.specs.Numbers.{is_number_word}
use Rattle.t1_text.proofs.NumberLaws.{decimal_spells, digits_word, minus_word}
use Rattle.t1_disassemble.specs.declared.fault.FontCode.{FontCode}
use Rattle.t1_disassemble.specs.Cuts.{pieces_after}
use Rattle.t1_disassemble.specs.Words.{one_byte_words, two_byte_words, word_at, operator_at, escaped_at, found_word, number_at, positive_at, negative_at, long_at, front_word, word_left, words_at, words_of, printed_words}
use Rattle.t1_disassemble.specs.WordsOnto.{words_onto, with_word, put_first}
use Rattle.t1_disassemble.proofs.CutPieces.{IsLeft, left_pieces}

-- a printed number is a number word
pub number_is_word : (n : ℤ) → FitsSigned w32 n → is_number_word (signed_decimal n) ≡ true
number_is_word (pos n) fits = let small : n < 2 ^ 64 = omega (arith, fits.sfits) in (digits_word (decimal n) n (decimal_spells n small)).0
number_is_word (negsuc n) fits = let small : suc n < 2 ^ 64 = omega (arith, fits.sfits) in (minus_word (decimal (suc n)) (suc n) (decimal_spells (suc n) small)).0

-- ---- what is left after a word

abbrev pub Leaves : {X : Type 0} → List ℕ → Result (X × List ℕ) FontCode → Type 0
Leaves rest (Ok it) = IsLeft rest it.1
Leaves rest (Err code) = Unit {0}

found_leaves : (rest : List ℕ) (word : Option (List ℕ)) → Leaves rest (found_word rest word)
found_leaves rest None = tt
found_leaves rest (Some word) = (0, refl)

escaped_leaves : (rest : List ℕ) → Leaves rest (escaped_at rest)
escaped_leaves [] = tt
escaped_leaves (w ∷ rest) = one (lookup (nat_eq w) two_byte_words) where
  one : (word : Option (List ℕ)) → Leaves (w ∷ rest) (found_word rest word)
  one None = tt
  one (Some word) = (1, refl)

operator_leaves : (v : ℕ) (rest : List ℕ) → Leaves rest (operator_at v rest)
operator_leaves v rest = elim (cases_Bool (v == 12)) [
  | inl t ↦ rw t (escaped_leaves rest)
  | inr f ↦ rw f (found_leaves rest (lookup (nat_eq v) one_byte_words))
]

positive_leaves : (v : ℕ) (rest : List ℕ) → Leaves rest (positive_at v rest)
positive_leaves v [] = tt
positive_leaves v (w ∷ rest) = (1, refl)

negative_leaves : (v : ℕ) (rest : List ℕ) → Leaves rest (negative_at v rest)
negative_leaves v [] = tt
negative_leaves v (w ∷ rest) = (1, refl)

long_leaves : (rest : List ℕ) → Leaves rest (long_at rest)
long_leaves [] = tt
long_leaves (a ∷ []) = tt
long_leaves (a ∷ b ∷ []) = tt
long_leaves (a ∷ b ∷ c ∷ []) = tt
long_leaves (a ∷ b ∷ c ∷ d ∷ rest) = (4, refl)

number_leaves : (v : ℕ) (rest : List ℕ) → Leaves rest (number_at v rest)
number_leaves v rest = elim (cases_Bool (ltb v 247)) [
  | inl t ↦ rw t (0, refl)
  | inr f ↦ rw f (elim (cases_Bool (ltb v 251)) [
    | inl t ↦ rw t (positive_leaves v rest)
    | inr g ↦ rw g (elim (cases_Bool (ltb v 255)) [
      | inl t ↦ rw t (negative_leaves v rest)
      | inr h ↦ rw h (long_leaves rest)
    ])
  ])
]

spelled_leaves : (rest : List ℕ) (found : Result (ℤ × List ℕ) FontCode) → Leaves rest found → Leaves rest (found >>= λ it. Ok (signed_decimal it.0, it.1))
spelled_leaves rest (Ok it) h = h
spelled_leaves rest (Err code) h = tt

pub word_leaves : (v : ℕ) (rest : List ℕ) → Leaves rest (word_at v rest)
unfolding word_at
word_leaves v rest = elim (cases_Bool (ltb v 32)) [
  | inl t ↦ rw t (operator_leaves v rest)
  | inr f ↦ rw f (spelled_leaves rest (number_at v rest) (number_leaves v rest))
]

-- ---- the first word, and those after it

-- what comes after a word, of the bytes that it leaves
abbrev pub then_words : Result (List ℕ × List ℕ) FontCode → Result (List (List ℕ)) FontCode
then_words found = found >>= λ it. words_of it.1 >>= λ words. Ok (it.0 ∷ words)

abbrev after_first : List ℕ → List ℕ
after_first bytes = word_left (front_word bytes)

found_more : (rest : List ℕ) (found : Result (List ℕ × List ℕ) FontCode) → Leaves rest found
    → (found >>= λ it. words_at (pieces_after after_first (length rest - length (word_left found)) rest) >>= λ words. Ok (it.0 ∷ words)) ≡ then_words found
unfolding words_of
found_more rest (Ok it) h =
    ap (λ (froms : List (List ℕ)). words_at froms >>= λ words. Ok (it.0 ∷ words)) (left_pieces after_first rest it.1 h)
found_more rest (Err code) h = refl

pub words_more : (v : ℕ) (rest : List ℕ) → words_of (v ∷ rest) ≡ then_words (word_at v rest)
unfolding words_of
words_more v rest = found_more rest (word_at v rest) (word_leaves v rest)

-- ---- a word is printed in front of those that are left

pub printed_more : (text w : List ℕ) (is_open : Bool) (ws : List (List ℕ))
    → text ++ printed_words is_open (w ∷ ws) ≡ with_word text is_open w ++ printed_words (is_number_word w) ws
printed_more text w is_open ws = elim (cases_Bool (is_number_word w)) [
  | inl t ↦ rw t (simp (append_assoc, append-nil))
  | inr f ↦ rw f (simp append_assoc)
]

pub push_more : (text : List ℕ) (is_open : Bool) (v : ℕ) (rest : List ℕ)
    → words_onto text is_open (words_of (v ∷ rest)) ≡ (put_first text is_open v rest >>= λ x. words_onto x.0 x.1 (words_of x.2))
push_more text is_open v rest = ap (words_onto text is_open) (words_more v rest) ∙ from (word_at v rest) where
  onto : (w : List ℕ) (read : Result (List (List ℕ)) FontCode)
      → words_onto text is_open (read >>= λ words. Ok (w ∷ words)) ≡ words_onto (with_word text is_open w) (is_number_word w) read
  onto w (Ok ws) = ap Ok (printed_more text w is_open ws)
  onto w (Err code) = refl

  put : Result (List ℕ × List ℕ) FontCode → Result (List ℕ × Bool × List ℕ) FontCode
  put found = found >>= λ it. Ok (with_word text is_open it.0, is_number_word it.0, it.1)

  from : (found : Result (List ℕ × List ℕ) FontCode) → words_onto text is_open (then_words found) ≡ (put found >>= λ x. words_onto x.0 x.1 (words_of x.2))
  from (Err code) = refl
  from (Ok it) = onto it.0 (words_of it.1)

pub push_none : (text : List ℕ) (is_open : Bool) → words_onto text is_open (words_of []) ≡ Ok (text ++ printed_words is_open [])
unfolding words_of
push_none text is_open = refl

-- ---- words that wait behind a text

word_behind : (text b w : List ℕ) (is_open : Bool) → with_word (text ++ b) is_open w ≡ text ++ with_word b is_open w
word_behind text b w is_open =
    let word = (if is_open then 32 else 9) ∷ w in
    let end = if is_number_word w then [] else 10 ∷ [] in
    ap (λ l. l ++ end) (append_assoc text b word) ∙ append_assoc text (b ++ word) end

-- a blank and a number are a word that leaves its line open
pub kept_number : (text blank all w : List ℕ) (is_open : Bool) → blank ≡ text ++ (if is_open then 32 else 9) ∷ [] → all ≡ blank ++ w → is_number_word w ≡ true → all ≡ with_word text is_open w
kept_number text blank all w is_open p q number =
    let word = (if is_open then 32 else 9) ∷ w in
    q ∙ ap (λ l. l ++ w) p ∙ append_assoc text ((if is_open then 32 else 9) ∷ []) w ∙ sym (append-nil (text ++ word))
    ∙ ap (λ (b : Bool). (text ++ word) ++ (if b then [] else 10 ∷ [])) (sym number)

-- what stands behind a text, with the next word
abbrev pub behind : List ℕ → List ℕ × Bool × List ℕ → List ℕ × Bool × List ℕ
behind text x = (text ++ x.0, x.1, x.2)

pub put_behind : (text b : List ℕ) (is_open : Bool) (v : ℕ) (rest : List ℕ) → put_first (text ++ b) is_open v rest ≡ (put_first b is_open v rest >>= λ x. Ok (behind text x))
put_behind text b is_open v rest = from (word_at v rest) where
  from : (found : Result (List ℕ × List ℕ) FontCode)
      → (found >>= λ it. Ok (with_word (text ++ b) is_open it.0, is_number_word it.0, it.1)) ≡ ((found >>= λ it. Ok (with_word b is_open it.0, is_number_word it.0, it.1)) >>= λ x. Ok (behind text x))
  from (Ok it) = ap (λ (l : List ℕ). Ok (l, is_number_word it.0, it.1)) (word_behind text b it.0 is_open)
  from (Err code) = refl

pub behind_ok : (text b : List ℕ) (is_open : Bool) (v : ℕ) (rest whole : List ℕ) (x : List ℕ × Bool × List ℕ) → put_first b is_open v rest ≡ Ok x → whole ≡ text ++ b → put_first whole is_open v rest ≡ Ok (text ++ x.0, x.1, x.2)
behind_ok text b is_open v rest whole x h e =
    ap (λ t. put_first t is_open v rest) e ∙ put_behind text b is_open v rest ∙ ap (λ (r : Result (List ℕ × Bool × List ℕ) FontCode). r >>= λ y. Ok (behind text y)) h

pub behind_err : (text b : List ℕ) (is_open : Bool) (v : ℕ) (rest whole : List ℕ) (code : FontCode) → put_first b is_open v rest ≡ Err code → whole ≡ text ++ b → put_first whole is_open v rest ≡ Err code
behind_err text b is_open v rest whole code h e =
    ap (λ t. put_first t is_open v rest) e ∙ put_behind text b is_open v rest ∙ ap (λ (r : Result (List ℕ × Bool × List ℕ) FontCode). r >>= λ y. Ok (behind text y)) h

-- the words that are left after one that is put, behind any text
pub known_more : (text old new left rest : List ℕ) (is_open opened : Bool) (v : ℕ) → left ≡ v ∷ rest → put_first old is_open v rest ≡ Ok (new, opened, rest)
    → words_onto (text ++ new) opened (words_of rest) ≡ words_onto (text ++ old) is_open (words_of left)
known_more text old new left rest is_open opened v e h =
    sym (ap (λ l. words_onto (text ++ old) is_open (words_of l)) e ∙ push_more (text ++ old) is_open v rest
    ∙ ap (λ (r : Result (List ℕ × Bool × List ℕ) FontCode). r >>= λ x. words_onto x.0 x.1 (words_of x.2)) (behind_ok text old is_open v rest (text ++ old) (new, opened, rest) h refl))

-- the same where more bytes belong to the word
pub number_more : (text old new left rest after : List ℕ) (is_open : Bool) (v : ℕ) → left ≡ v ∷ rest → put_first old is_open v rest ≡ Ok (new, true, after)
    → words_onto (text ++ new) true (words_of after) ≡ words_onto (text ++ old) is_open (words_of left)
number_more text old new left rest after is_open v e h =
    sym (ap (λ l. words_onto (text ++ old) is_open (words_of l)) e ∙ push_more (text ++ old) is_open v rest
    ∙ ap (λ (r : Result (List ℕ × Bool × List ℕ) FontCode). r >>= λ x. words_onto x.0 x.1 (words_of x.2)) (behind_ok text old is_open v rest (text ++ old) (new, true, after) h refl))
