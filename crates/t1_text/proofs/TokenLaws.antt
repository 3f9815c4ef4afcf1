-- The first token of a line, and the tokens after it.
use Rattle.std.proofs.Common.{◌≡◌, ℕ, Bool, true, false, ◌==◌, ◌+◌, ◌<◌, ◌⊎◌, ◌≢◌, if◌then◌else◌, List, [], ◌∷◌, length, take, drop, map, get_or, refl, sym, ◌∙◌, ap, inl, inr, arith}
use Rattle.std.specs.List.{onto_first, prefix_len}
use Rattle.std.proofs.lemmas.Bool.{cases_Bool}
use Rattle.t1_frac.specs.Words.{is_blank, trimmed_front}
use Rattle.t1_text.specs.Tokens.{tokens, is_bracket, is_regular, token_goes_on, places_from, joins_at, onto_place}
use Rattle.t1_text.specs.TokenLengths.{token_len}
use Rattle.t1_text.proofs.PlaceLaws.{regular_parts, other_place, place_at, no_place_at}

-- the tokens without their places
abbrev pub bare : List (ℕ × List ℕ) → List (List ℕ)
bare ps = map (λ t. t.1) ps

-- a byte of a token before the tokens that follow it
abbrev pub joins : ℕ → List ℕ → List (List ℕ) → List (List ℕ)
joins c rest ts = if token_goes_on rest then onto_first c ts else (c ∷ []) ∷ ts

bare_onto : (i c : ℕ) (ps : List (ℕ × List ℕ)) → bare (onto_place i c ps) ≡ onto_first c (bare ps)
bare_onto i c [] = refl
bare_onto i c (t ∷ ts) = refl

bare_if : (i c : ℕ) (b : Bool) (ps : List (ℕ × List ℕ)) → bare (if b then onto_place i c ps else (i, c ∷ []) ∷ ps) ≡ (if b then onto_first c (bare ps) else (c ∷ []) ∷ bare ps)
bare_if i c true ps = bare_onto i c ps
bare_if i c false ps = refl

bare_joins : (i c : ℕ) (rest : List ℕ) (ps : List (ℕ × List ℕ)) → bare (joins_at i c rest ps) ≡ joins c rest (bare ps)
bare_joins i c rest ps = bare_if i c (token_goes_on rest) ps

moved : (i j : ℕ) (l : List ℕ) → bare (places_from i l) ≡ bare (places_from j l)
moved i j [] = refl
moved i j (c ∷ rest) =
    elim (cases_Bool (is_blank c)) [
      | inl blank ↦ rw blank (moved (i + 1) (j + 1) rest)
      | inr word ↦ elim (cases_Bool (c == 37)) [
        | inl comment ↦ rw (word, comment) refl
        | inr none ↦ elim (cases_Bool (is_bracket c)) [
          | inl bracket ↦ rw (word, none, bracket) (ap (λ t. (c ∷ []) ∷ t) (moved (i + 1) (j + 1) rest))
          | inr other ↦
              ap bare (other_place i c rest word none other) ∙ bare_joins i c rest (places_from (i + 1) rest)
              ∙ ap (joins c rest) (moved (i + 1) (j + 1) rest)
              ∙ sym (ap bare (other_place j c rest word none other) ∙ bare_joins j c rest (places_from (j + 1) rest))
        ]
      ]
    ]

-- the tokens of a line are the same wherever it begins
pub bare_places : (i : ℕ) (l : List ℕ) → bare (places_from i l) ≡ tokens l
bare_places i l = moved i 0 l

-- a blank before a token counts for nothing
pub blank_first : (c : ℕ) (rest : List ℕ) → is_blank c ≡ true → tokens (c ∷ rest) ≡ tokens rest
blank_first c rest h = rw h (bare_places 1 rest)

-- a token that begins with a byte that is no token by itself
pub other_first : (c : ℕ) (rest : List ℕ) → is_blank c ≡ false → (c == 37) ≡ false → is_bracket c ≡ false → tokens (c ∷ rest) ≡ joins c rest (tokens rest)
other_first c rest word none other = ap bare (other_place 0 c rest word none other) ∙ bare_joins 0 c rest (places_from 1 rest) ∙ ap (joins c rest) (bare_places 1 rest)

-- a token that begins with a regular byte
pub regular_first : (c : ℕ) (rest : List ℕ) → is_regular c ≡ true → tokens (c ∷ rest) ≡ joins c rest (tokens rest)
regular_first c rest h = let parts = regular_parts c h in other_first c rest parts.0 parts.2 parts.1

-- the first token of a line without its blanks
pub token_at : (l s : List ℕ) → s ≡ trimmed_front l → 0 < length s → get_or s 0 0 ≢ 37 → tokens l ≡ take (token_len s) s ∷ tokens (drop (token_len s) s)
token_at l s e some other =
    let k = prefix_len is_blank l in
    ap bare (place_at 0 k l s e (omega arith) some other) ∙ ap (λ t. take (token_len s) s ∷ t) (bare_places (k + token_len s) (drop (token_len s) s))

-- a line without tokens
pub no_token_at : (l s : List ℕ) → s ≡ trimmed_front l → (length s ≡ 0) ⊎ (get_or s 0 0 ≡ 37) → tokens l ≡ []
no_token_at l s e none = ap bare (no_place_at 0 l s e none)
