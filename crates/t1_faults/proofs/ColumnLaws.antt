-- The first word of a text with its column, and the words after it.
use Rattle.std.proofs.Common.{◌≡◌, ℕ, false, ◌+◌, ◌<◌, List, [], ◌∷◌, length, take, drop, refl, sym, ◌∙◌, ap, inl, inr, arith}
use Rattle.std.specs.Prelude.{if◌then◌else◌}
use Rattle.std.specs.List.{prefix_len, position_or_len}
use Rattle.std.proofs.lemmas.Bool.{cases_Bool}
use Rattle.std.proofs.Math.Numerals.{one-add}
use Rattle.t1_frac.specs.Words.{is_blank, trimmed_front, word_goes_on}
use Rattle.t1_frac.proofs.WordLaws.{front_stays}
use Rattle.t1_text.specs.Tokens.{onto_place}
use Rattle.t1_faults.specs.Placed.{columns_from}

-- a byte of a word before the words that follow it
abbrev pub column_joins : ℕ → ℕ → List ℕ → List (ℕ × List ℕ) → List (ℕ × List ℕ)
column_joins i c rest ws = if word_goes_on rest then onto_place i c ws else (i, c ∷ []) ∷ ws

pub column_first : (i c : ℕ) (rest : List ℕ) → is_blank c ≡ false → columns_from i (c ∷ rest) ≡ column_joins i c rest (columns_from (i + 1) rest)
column_first i c rest h = rw h refl

columns_skip : (i : ℕ) (l : List ℕ) → columns_from i l ≡ columns_from (i + prefix_len is_blank l) (trimmed_front l)
columns_skip i [] = refl
columns_skip i (c ∷ rest) =
    elim (cases_Bool (is_blank c)) [
      | inl blank ↦ rw (blank, one-add) (columns_skip (i + 1) rest ∙ ap (λ k. columns_from k (trimmed_front rest)) (omega arith))
      | inr other ↦
          let none : prefix_len is_blank (c ∷ rest) ≡ 0 = rw other refl in
          let same : trimmed_front (c ∷ rest) ≡ c ∷ rest = ap (λ k. drop k (c ∷ rest)) none in
          let here : i ≡ i + prefix_len is_blank (c ∷ rest) = omega (arith, none) in
          ap (λ k. columns_from k (c ∷ rest)) here ∙ ap (columns_from (i + prefix_len is_blank (c ∷ rest))) (sym same)
    ]

-- a word that goes on as far as it can
pub column_run : (i c : ℕ) (rest : List ℕ) → column_joins i c rest (columns_from (i + 1) rest)
    ≡ (i, c ∷ take (position_or_len is_blank rest) rest) ∷ columns_from (i + (1 + position_or_len is_blank rest)) (drop (position_or_len is_blank rest) rest)
column_run i c [] = refl
column_run i c (d ∷ rest) =
    elim (cases_Bool (is_blank d)) [
      | inl blank ↦ rw blank (rw blank refl)
      | inr on ↦
          rw (on, one-add) (ap (onto_place i c) (column_run (i + 1) d rest)
          ∙ ap (λ k. (i, c ∷ d ∷ take (position_or_len is_blank rest) rest) ∷ columns_from k (drop (position_or_len is_blank rest) rest)) (omega arith))
    ]

-- the first word of a text without its blanks
pub column_at : (i k : ℕ) (l s : List ℕ) → s ≡ trimmed_front l → k ≡ i + prefix_len is_blank l → 0 < length s
    → columns_from i l ≡ (k, take (position_or_len is_blank s) s) ∷ columns_from (k + position_or_len is_blank s) (drop (position_or_len is_blank s) s)
column_at i k l [] e at some = absurd (omega arith)
column_at i k l (c ∷ rest) e at some =
    let first = front_stays l c rest e in
    columns_skip i l ∙ ap (λ n. columns_from n (trimmed_front l)) (sym at) ∙ ap (columns_from k) (sym e) ∙ column_first k c rest first ∙ column_run k c rest
    ∙ rw (first, one-add) refl

-- a text without words
pub no_column_at : (i : ℕ) (l s : List ℕ) → s ≡ trimmed_front l → length s ≡ 0 → columns_from i l ≡ []
no_column_at i l [] e none = columns_skip i l ∙ ap (columns_from (i + prefix_len is_blank l)) (sym e)
no_column_at i l (c ∷ rest) e none = absurd (omega arith)
