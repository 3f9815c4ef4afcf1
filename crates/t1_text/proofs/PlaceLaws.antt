-- The first token of a line with its place, and the tokens after it.
use Rattle.std.proofs.Common.{◌≡◌, ℕ, true, false, ◌||◌, ◌==◌, ◌+◌, ◌<◌, ◌⊎◌, ◌≢◌, List, [], ◌∷◌, length, take, drop, get_or, refl, sym, ◌∙◌, ap, inl, inr, arith}
use Rattle.std.specs.List.{prefix_len}
use Rattle.std.proofs.lemmas.Bool.{cases_Bool, ne_eqb, eq-eqb, not-true, or_parts}
use Rattle.std.proofs.Math.Numerals.{one-add}
use Rattle.t1_frac.specs.Words.{is_blank, trimmed_front}
use Rattle.t1_frac.proofs.WordLaws.{front_stays}
use Rattle.t1_text.specs.Tokens.{is_bracket, is_regular, places_from, joins_at, onto_place}
use Rattle.t1_text.specs.TokenLengths.{token_len}

-- what a regular byte isn't
pub regular_parts : (c : ℕ) → is_regular c ≡ true → (is_blank c ≡ false) × (is_bracket c ≡ false) × (c == 37 ≡ false)
regular_parts c h =
    let a = or_parts (is_blank c || is_bracket c || c == 47) (c == 37) (not-true _ h) in
    let b = or_parts (is_blank c || is_bracket c) (c == 47) a.0 in
    let d = or_parts (is_blank c) (is_bracket c) b.0 in
    (d.0, d.1, a.1)

-- a token that begins with a byte that is no token by itself
pub other_place : (i c : ℕ) (rest : List ℕ) → is_blank c ≡ false → (c == 37) ≡ false → is_bracket c ≡ false → places_from i (c ∷ rest) ≡ joins_at i c rest (places_from (i + 1) rest)
other_place i c rest word none other = rw (word, none, other) refl

pub regular_place : (i c : ℕ) (rest : List ℕ) → is_regular c ≡ true → places_from i (c ∷ rest) ≡ joins_at i c rest (places_from (i + 1) rest)
regular_place i c rest h = let parts = regular_parts c h in other_place i c rest parts.0 parts.2 parts.1

places_skip : (i : ℕ) (l : List ℕ) → places_from i l ≡ places_from (i + prefix_len is_blank l) (trimmed_front l)
places_skip i [] = refl
places_skip i (c ∷ rest) =
    elim (cases_Bool (is_blank c)) [
      | inl blank ↦ rw (blank, one-add) (places_skip (i + 1) rest ∙ ap (λ k. places_from k (trimmed_front rest)) (omega arith))
      | inr other ↦
          let none : prefix_len is_blank (c ∷ rest) ≡ 0 = rw other refl in
          let same : trimmed_front (c ∷ rest) ≡ c ∷ rest = ap (λ k. drop k (c ∷ rest)) none in
          let here : i ≡ i + prefix_len is_blank (c ∷ rest) = omega (arith, none) in
          ap (λ k. places_from k (c ∷ rest)) here ∙ ap (places_from (i + prefix_len is_blank (c ∷ rest))) (sym same)
    ]

-- a token that goes on as far as it can
pub run_place : (i c : ℕ) (rest : List ℕ) → joins_at i c rest (places_from (i + 1) rest) ≡ (i, c ∷ take (prefix_len is_regular rest) rest) ∷ places_from (i + (1 + prefix_len is_regular rest)) (drop (prefix_len is_regular rest) rest)
run_place i c [] = refl
run_place i c (d ∷ rest) =
    elim (cases_Bool (is_regular d)) [
      | inl on ↦
          rw (on, one-add) (ap (onto_place i c) (regular_place (i + 1) d rest on ∙ run_place (i + 1) d rest)
          ∙ ap (λ k. (i, c ∷ d ∷ take (prefix_len is_regular rest) rest) ∷ places_from k (drop (prefix_len is_regular rest) rest)) (omega arith))
      | inr off ↦ rw off refl
    ]

first_place : (i c : ℕ) (rest : List ℕ) → (c == 37) ≡ false → is_blank c ≡ false
    → places_from i (c ∷ rest) ≡ (i, take (token_len (c ∷ rest)) (c ∷ rest)) ∷ places_from (i + token_len (c ∷ rest)) (drop (token_len (c ∷ rest)) (c ∷ rest))
first_place i c rest no_comment no_blank =
    elim (cases_Bool (is_bracket c)) [
      | inl bracket ↦ rw (no_blank, no_comment, bracket) refl
      | inr other ↦ rw (no_blank, no_comment, other) (run_place i c rest ∙ (rw one-add refl))
    ]

-- the first token of a line without its blanks
pub place_at : (i k : ℕ) (l s : List ℕ) → s ≡ trimmed_front l → k ≡ i + prefix_len is_blank l → 0 < length s → get_or s 0 0 ≢ 37
    → places_from i l ≡ (k, take (token_len s) s) ∷ places_from (k + token_len s) (drop (token_len s) s)
place_at i k l [] e at some other = absurd (omega arith)
place_at i k l (c ∷ rest) e at some other =
    places_skip i l ∙ ap (λ n. places_from n (trimmed_front l)) (sym at) ∙ ap (places_from k) (sym e) ∙ first_place k c rest (ne_eqb c 37 other) (front_stays l c rest e)

-- a line without tokens
pub no_place_at : (i : ℕ) (l s : List ℕ) → s ≡ trimmed_front l → (length s ≡ 0) ⊎ (get_or s 0 0 ≡ 37) → places_from i l ≡ []
no_place_at i l [] e none = places_skip i l ∙ ap (places_from (i + prefix_len is_blank l)) (sym e)
no_place_at i l (c ∷ rest) e (inl none) = absurd (omega arith)
no_place_at i l (c ∷ rest) e (inr comment) = places_skip i l ∙ ap (places_from (i + prefix_len is_blank l)) (sym e) ∙ rw (front_stays l c rest e, eq-eqb c 37 comment) refl
