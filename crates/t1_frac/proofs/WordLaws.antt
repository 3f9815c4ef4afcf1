-- The first word of a line, and the words after it.
use Rattle.std.proofs.Common.{◌≡◌, ℕ, false, ◌<◌, ◌≤◌, if◌then◌else◌, List, [], ◌∷◌, length, take, drop, refl, sym, ◌∙◌, ap, inl, inr, arith, length-drop}
use Rattle.std.specs.List.{onto_first, position_or_len}
use Rattle.std.proofs.lemmas.Bool.{cases_Bool}
use Rattle.std.proofs.Math.Numerals.{one-add}
use Rattle.t1_frac.specs.Words.{is_blank, trimmed_front, words, word_goes_on}

-- the first byte that is left isn't a blank
pub front_stays : (l : List ℕ) (c : ℕ) (rest : List ℕ) → c ∷ rest ≡ trimmed_front l → is_blank c ≡ false
front_stays [] c rest e = cc
front_stays (b ∷ l) c rest e =
    elim (cases_Bool (is_blank b)) [
      | inl blank ↦ front_stays l c rest (rw (blank, one-add) at e)
      | inr other ↦ let same : c ∷ rest ≡ b ∷ l = rw other at e in let first : c ≡ b = cc in rw first other
    ]

-- what is left is no longer than the line
front_within : (l : List ℕ) → length (trimmed_front l) ≤ length l
front_within [] = omega arith
front_within (b ∷ l) =
    elim (cases_Bool (is_blank b)) [
      | inl blank ↦ rw (blank, one-add) (let h = front_within l in omega arith)
      | inr other ↦ rw other (omega arith)
    ]

-- a byte of a word before the words that follow it
abbrev pub word_joins : ℕ → List ℕ → List (List ℕ) → List (List ℕ)
word_joins c rest ws = if word_goes_on rest then onto_first c ws else (c ∷ []) ∷ ws

pub word_first : (c : ℕ) (rest : List ℕ) → is_blank c ≡ false → words (c ∷ rest) ≡ word_joins c rest (words rest)
word_first c rest h = rw h refl

-- blanks before a word count for nothing
words_skip : (l : List ℕ) → words l ≡ words (trimmed_front l)
words_skip [] = refl
words_skip (c ∷ rest) =
    elim (cases_Bool (is_blank c)) [
      | inl blank ↦ rw (blank, one-add) (words_skip rest)
      | inr other ↦ let same : trimmed_front (c ∷ rest) ≡ c ∷ rest = rw other refl in ap words (sym same)
    ]

-- a word that goes on as far as it can
pub word_run : (c : ℕ) (rest : List ℕ) → word_joins c rest (words rest) ≡ (c ∷ take (position_or_len is_blank rest) rest) ∷ words (drop (position_or_len is_blank rest) rest)
word_run c [] = refl
word_run c (d ∷ rest) =
    elim (cases_Bool (is_blank d)) [
      | inl blank ↦ rw blank (rw blank refl)
      | inr on ↦ rw (on, one-add) (ap (onto_first c) (word_run d rest))
    ]

-- the first word of a line without its blanks
pub word_at : (l s : List ℕ) → s ≡ trimmed_front l → 0 < length s → words l ≡ take (position_or_len is_blank s) s ∷ words (drop (position_or_len is_blank s) s)
word_at l [] e some = absurd (omega arith)
word_at l (c ∷ rest) e some =
    let first = front_stays l c rest e in
    words_skip l ∙ ap words (sym e) ∙ word_first c rest first ∙ word_run c rest ∙ rw (first, one-add) refl

-- what follows the first word is shorter than the line
pub word_shortens : (l s : List ℕ) → s ≡ trimmed_front l → 0 < length s → length (drop (position_or_len is_blank s) s) < length l
word_shortens l [] e some = absurd (omega arith)
word_shortens l (c ∷ rest) e some =
    let first = front_stays l c rest e in
    let within = front_within l in
    let same = ap length e in
    rw (first, one-add) (simp length-drop (omega arith))

-- a line without words
pub no_word_at : (l s : List ℕ) → s ≡ trimmed_front l → length s ≡ 0 → words l ≡ []
no_word_at l [] e none = words_skip l ∙ ap words (sym e)
no_word_at l (c ∷ rest) e none = absurd (omega arith)
