-- The tokens that open an entry.
use Rattle.std.proofs.Common.{◌≡◌, ℕ, ◌-◌, ◌^◌, true, false, min, List, [], ◌∷◌, length, take, take_all, Option, None, Some, refl, ap, ◌∙◌, inl, inr, arith}
use Rattle.std.proofs.lemmas.Bool.{and_parts, cases_Bool}
use Rattle.std.specs.Char.{is_ascii_digit}
use Rattle.std.specs.List.{list_all, prefix_len}
use Rattle.std.specs.Prelude.{is_some}
use Rattle.t1_frac.specs.Numbers.{decimal_value}
use Rattle.t1_text.specs.Names.{decimal_of}
use Rattle.t1_disassemble.specs.Opening.{Opening, length_said, glyph_opening, subr_here, or_other, opening_here}

-- three tokens, one after another
pub here_three : (operator : List ℕ) (xs ys zs ws : List (ℕ × List ℕ)) (a b c : ℕ × List ℕ) → xs ≡ a ∷ ys → ys ≡ b ∷ zs → zs ≡ c ∷ ws
    → opening_here operator xs ≡ or_other (glyph_opening operator a b c) (subr_here operator a b c ws)
here_three operator xs ys zs ws a b c e f g = rw (e, f, g) refl

-- they open a glyph
pub here_glyph : (operator : List ℕ) (xs ys zs ws : List (ℕ × List ℕ)) (a b c : ℕ × List ℕ) (o : Opening) → xs ≡ a ∷ ys → ys ≡ b ∷ zs → zs ≡ c ∷ ws
    → glyph_opening operator a b c ≡ Some o → opening_here operator xs ≡ Some o
here_glyph operator xs ys zs ws a b c o e f g is = here_three operator xs ys zs ws a b c e f g ∙ ap (λ (first : Option Opening). or_other first (subr_here operator a b c ws)) is

-- they open none
pub here_other : (operator : List ℕ) (xs ys zs ws : List (ℕ × List ℕ)) (a b c : ℕ × List ℕ) → xs ≡ a ∷ ys → ys ≡ b ∷ zs → zs ≡ c ∷ ws
    → glyph_opening operator a b c ≡ None → opening_here operator xs ≡ subr_here operator a b c ws
here_other operator xs ys zs ws a b c e f g is = here_three operator xs ys zs ws a b c e f g ∙ ap (λ (first : Option Opening). or_other first (subr_here operator a b c ws)) is

-- ---- the length that digits say

all_in_front : (l : List ℕ) → list_all is_ascii_digit l ≡ true → prefix_len is_ascii_digit l ≡ length l
all_in_front [] h = refl
all_in_front (c ∷ l) h = let parts = and_parts (is_ascii_digit c) (list_all is_ascii_digit l) h in rw parts.0 (omega (arith, all_in_front l parts.1))

are_digits : (ds : List ℕ) → is_some (decimal_of ds) ≡ true → list_all is_ascii_digit ds ≡ true
are_digits [] h = refl
are_digits (d ∷ ds) h = elim (cases_Bool (list_all is_ascii_digit (d ∷ ds))) [
  | inl t ↦ t
  | inr f ↦ absurd (let none : false ≡ true = rw f at h in cc)
]

pub length_read : (ds : List ℕ) (n v : ℕ) → is_some (decimal_of ds) ≡ true → n ≡ prefix_len is_ascii_digit ds → v ≡ min (decimal_value (take n ds)) (2 ^ 64 - 1) → v ≡ length_said ds
length_read ds n v h e is =
    let same : take n ds ≡ ds = take_all n ds (omega (arith, e, all_in_front ds (are_digits ds h))) in
    is ∙ ap (λ l. min (decimal_value l) (2 ^ 64 - 1)) same
