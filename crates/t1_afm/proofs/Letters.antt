-- Heights are read off glyphs whose names have one byte.
use Rattle.std.proofs.Common.{◌≡◌, ◌∙◌, ◌+◌, ℕ, suc, Bool, true, false, cond, not, List, [], ◌∷◌, length, drop, Some, option_map, refl, ap, sym, inl, inr, arith}
use Rattle.std.specs.Prelude.{codes, nat_eq, nat_lt}
use Rattle.std.specs.Fmt.{signed_decimal}
use Rattle.std.specs.List.{position, position_or_len}
use Rattle.std.specs.Option.{unwrap_or}
use Rattle.std.specs.Str.{bytes_eq}
use Rattle.std.proofs.lemmas.Bool.{cases_Bool, ltb-false}
use Rattle.std.proofs.lemmas.List.Sums.{prefix_len-le-length}
use Rattle.std.proofs.lemmas.Slice.Eq.{bytes_eq-Decides}
use Rattle.t1_afm.specs.declared.metrics.CharMetric.{CharMetric}
use Rattle.t1_afm.specs.Afm.{char_named, heights}
use Rattle.t1_afm.specs.Letters.{is_letter}

-- a glyph whose name hasn't one byte has another name than one of one byte
unnamed : (c : CharMetric) (name : List ℕ) → length name ≡ 1 → is_letter c ≡ false → bytes_eq c.name name ≡ false
unnamed c name one off = by (bytes_eq c.name name) refl where
  by : (b : Bool) → bytes_eq c.name name ≡ b → b ≡ false
  by true same =
      let size : length c.name ≡ 1 = ap length ((bytes_eq-Decides c.name name).0 same) ∙ one in
      let on : is_letter c ≡ true = ap (λ n. nat_eq n 1) size in
      let never : true ≡ false = sym on ∙ off in
      absurd (cc)
  by false same = refl

-- the first glyph of such a name is found from the first letter on
char-from : (name : List ℕ) → length name ≡ 1 → (chars : List CharMetric) → char_named name (drop (position_or_len is_letter chars) chars) ≡ char_named name chars
char-from name one [] = refl
char-from name one (c ∷ chars) = by (char-from name one chars) (is_letter c) refl where
  by : char_named name (drop (position_or_len is_letter chars) chars) ≡ char_named name chars → (b : Bool) → is_letter c ≡ b
      → char_named name (drop (cond (not b) (1 + position_or_len is_letter chars) 0) (c ∷ chars)) ≡ char_named name (c ∷ chars)
  by below true is = refl
  by below false is =
      let next : 1 + position_or_len is_letter chars ≡ suc (position_or_len is_letter chars) = omega arith in
      ap (λ n. char_named name (drop n (c ∷ chars))) next
      ∙ below
      ∙ ap (λ b. cond b (Some c) (char_named name chars)) (sym (unnamed c name one is))

-- the place of the first letter, or the length where there is none
pub letter_or_length : (chars : List CharMetric) → unwrap_or (position is_letter chars) (length chars) ≡ position_or_len is_letter chars
letter_or_length chars = elim (cases_Bool (nat_lt (position_or_len is_letter chars) (length chars))) [
  | inl there ↦ rw there refl
  | inr nowhere ↦
      let most = prefix_len-le-length (λ x. not (is_letter x)) chars in
      let least = ltb-false (position_or_len is_letter chars) (length chars) nowhere in
      rw nowhere (omega (arith, most, least))
]

pub heights_from : (chars : List CharMetric) → heights (drop (position_or_len is_letter chars) chars) ≡ heights chars
heights_from chars = λ j.
    (codes "CapHeight", option_map (λ c. signed_decimal c.bbox.top) (char-from (codes "H") refl chars j))
    ∷ (codes "XHeight", option_map (λ c. signed_decimal c.bbox.top) (char-from (codes "x") refl chars j))
    ∷ (codes "Ascender", option_map (λ c. signed_decimal c.bbox.top) (char-from (codes "d") refl chars j))
    ∷ (codes "Descender", option_map (λ c. signed_decimal c.bbox.bottom) (char-from (codes "p") refl chars j))
    ∷ []
