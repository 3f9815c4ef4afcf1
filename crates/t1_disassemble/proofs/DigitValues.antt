-- The values of hexadecimal digits, one after another.
use Rattle.std.proofs.Common.{◌≡◌, ℕ, Bool, true, false, ◌||◌, ◌≤◌, ◌<◌, List, [], ◌∷◌, Option, None, Some, cond, refl, sym, ap, ◌∙◌, subst, inl, inr, arith}
use Rattle.std.proofs.lemmas.Bool.{cases_Bool, cases_lt, lt-leb, ne_eqb}
use Rattle.std.proofs.lemmas.List.Sums.{take_while-cons}
use Rattle.std.proofs.Math.Numerals.{one-add}
use Rattle.std.specs.List.{cons_option, filter_map, take_while}
use Rattle.std.specs.Prelude.{is_some}
use Rattle.t1_frac.specs.Words.{is_blank, trimmed_front}
use Rattle.t1_disassemble.specs.Digits.{digit_value, is_digit, is_digit_or_blank, digit_values}

-- bytes that print are no blanks
pub not_blank : (c : ℕ) → 33 ≤ c → is_blank c ≡ false
not_blank c h =
    rw (ne_eqb c 0 (omega (arith, h)), ne_eqb c 9 (omega (arith, h)), ne_eqb c 10 (omega (arith, h)), ne_eqb c 12 (omega (arith, h)), ne_eqb c 13 (omega (arith, h)), ne_eqb c 32 (omega (arith, h))) refl

low_none : (c : ℕ) → c < 48 → digit_value c ≡ None
unfolding digit_value
low_none c h = rw (lt-leb 48 c h, lt-leb 97 c (omega (arith, h)), lt-leb 65 c (omega (arith, h))) refl

-- a blank is no digit
blank_none : (c : ℕ) → is_blank c ≡ true → digit_value c ≡ None
blank_none c h = elim (cases_lt c 33) [
  | inl low ↦ low_none c (omega (arith, low))
  | inr high ↦ (let off : false ≡ true = sym (not_blank c high) ∙ h in absurd (cc))
]

-- ---- the values from a byte on

passes : (c : ℕ) (rest : List ℕ) → is_digit_or_blank c ≡ true → digit_values (c ∷ rest) ≡ cons_option (digit_value c) (digit_values rest)
passes c rest h = ap (filter_map digit_value) (take_while-cons is_digit_or_blank c rest ∙ ap (λ b. cond b (c ∷ take_while is_digit_or_blank rest) []) h)

or_true : (b : Bool) → (b || true) ≡ true
or_true true = refl
or_true false = refl

pub blank_passed : (c : ℕ) (rest : List ℕ) → is_blank c ≡ true → digit_values (c ∷ rest) ≡ digit_values rest
blank_passed c rest h = passes c rest (ap (λ b. b || is_digit c) h) ∙ ap (λ (v : Option ℕ). cons_option v (digit_values rest)) (blank_none c h)

pub digit_first : (c v : ℕ) (rest : List ℕ) → digit_value c ≡ Some v → digit_values (c ∷ rest) ≡ v ∷ digit_values rest
digit_first c v rest h =
    passes c rest (ap (λ d. is_blank c || d) (ap is_some h) ∙ or_true (is_blank c)) ∙ ap (λ (o : Option ℕ). cons_option o (digit_values rest)) h

other_ends : (c : ℕ) (rest : List ℕ) → is_blank c ≡ false → digit_value c ≡ None → digit_values (c ∷ rest) ≡ []
other_ends c rest blank digit =
    ap (filter_map digit_value) (take_while-cons is_digit_or_blank c rest ∙ ap (λ t. cond t (c ∷ take_while is_digit_or_blank rest) []) (ap (λ b. b || is_digit c) blank ∙ ap is_some digit))

-- ---- behind blanks

front_blank : (c : ℕ) (rest : List ℕ) → is_blank c ≡ true → trimmed_front (c ∷ rest) ≡ trimmed_front rest
front_blank c rest h = rw (h, one-add) refl

front_word : (c : ℕ) (rest : List ℕ) → is_blank c ≡ false → trimmed_front (c ∷ rest) ≡ c ∷ rest
front_word c rest h = rw h refl

blanks_passed : (text : List ℕ) → digit_values text ≡ digit_values (trimmed_front text)
blanks_passed [] = refl
blanks_passed (c ∷ rest) = elim (cases_Bool (is_blank c)) [
  | inl t ↦ blank_passed c rest t ∙ blanks_passed rest ∙ ap digit_values (sym (front_blank c rest t))
  | inr f ↦ ap digit_values (sym (front_word c rest f))
]

head_word : (text : List ℕ) (c : ℕ) (rest : List ℕ) → trimmed_front text ≡ c ∷ rest → is_blank c ≡ false
head_word [] c rest h = absurd (cc)
head_word (d ∷ text) c rest h = elim (cases_Bool (is_blank d)) [
  | inl t ↦ head_word text c rest (sym (front_blank d text t) ∙ h)
  | inr f ↦ (let same : d ∷ text ≡ c ∷ rest = sym (front_word d text f) ∙ h in let head : d ≡ c = cc in subst (λ x. is_blank x ≡ false) head f)
]

-- what stands behind the blanks at the front tells the first digit, or that there is none
pub values_end : (text : List ℕ) → trimmed_front text ≡ [] → digit_values text ≡ []
values_end text h = blanks_passed text ∙ ap digit_values h

pub values_none : (text : List ℕ) (c : ℕ) (rest : List ℕ) → trimmed_front text ≡ c ∷ rest → digit_value c ≡ None → digit_values text ≡ []
values_none text c rest h digit = blanks_passed text ∙ ap digit_values h ∙ other_ends c rest (head_word text c rest h) digit

pub values_first : (text : List ℕ) (c v : ℕ) (rest : List ℕ) → trimmed_front text ≡ c ∷ rest → digit_value c ≡ Some v → digit_values text ≡ v ∷ digit_values rest
values_first text c v rest h digit = blanks_passed text ∙ ap digit_values h ∙ digit_first c v rest digit
