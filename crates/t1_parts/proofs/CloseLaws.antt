-- Which lines end in the text of the closefile line.
use Rattle.std.proofs.Common.{◌≡◌, ℕ, Bool, true, false, not, ◌&&◌, ◌==◌, ◌-◌, List, [], ◌∷◌, ◌++◌, length, take, drop, reverse, codes, refl, sym, ◌∙◌, ap, inl, inr, arith, append_assoc, length-append}
use Rattle.std.specs.List.{list_all, list_any, prefix_len}
use Rattle.std.specs.Str.{bytes_eq}
use Rattle.std.proofs.lemmas.Bool.{and_parts, and_from, cases_Bool, not-true, eq-eqb, both_ways}
use Rattle.std.proofs.lemmas.List.{reverse-append, reverse-reverse, take-append-drop}
use Rattle.std.proofs.lemmas.Slice.Eq.{bytes_eq-Decides}
use Rattle.std.proofs.Math.Numerals.{one-add}
use Rattle.std.proofs.Math.Seq.{drop-append_seam}
use Rattle.t1_frac.specs.Words.{is_blank, trimmed_front}
use Rattle.t1_text.specs.Lines.{trimmed}
use Rattle.t1_parts.specs.Parts.{is_closefile}

abbrev pub closing_bytes : List ℕ
closing_bytes = codes "mark currentfile closefile"

-- the line, from its end, begins with the text from its end
abbrev pub Closes : List ℕ → Type 0
Closes l = (g : List ℕ) × (trimmed_front (reverse l) ≡ reverse closing_bytes ++ g)

pub front_more : (c : ℕ) (z x y : List ℕ) → trimmed_front x ≡ c ∷ z → trimmed_front (x ++ y) ≡ (c ∷ z) ++ y
front_more c z [] y e = cc
front_more c z (d ∷ x) y e =
    elim (cases_Bool (is_blank d)) [
      | inl blank ↦ let here : trimmed_front x ≡ c ∷ z = rw (blank, one-add) at e in rw (blank, one-add) (front_more c z x y here)
      | inr word ↦ let here : d ∷ x ≡ c ∷ z = rw word at e in rw word (ap (λ t. t ++ y) here)
    ]

-- a byte that is no blank stays, and what is after it
front_past : (d : ℕ) (x y : List ℕ) → is_blank d ≡ false → trimmed_front (x ++ d ∷ y) ≡ trimmed_front x ++ d ∷ y
front_past d [] y h = rw h refl
front_past d (c ∷ x) y h =
    elim (cases_Bool (is_blank c)) [
      | inl blank ↦ rw (blank, one-add, one-add) (front_past d x y h)
      | inr word ↦ rw word refl
    ]

-- a text of other bytes stands before a byte
overlap_byte : (test : ℕ → Bool) (x : List ℕ) (d : ℕ) (y t g : List ℕ) → list_all test t ≡ true → test d ≡ false → x ++ d ∷ y ≡ t ++ g → (z : List ℕ) × (x ≡ t ++ z)
overlap_byte test x d y [] g h off e = (x, refl)
overlap_byte test [] d y (c ∷ t) g h off e =
    let same : d ≡ c = cc in
    absurd (both_ways (test c) (ap test (sym same) ∙ off) (and_parts (test c) (list_all test t) h).0)
overlap_byte test (a ∷ x) d y (c ∷ t) g h off e =
    let same : a ≡ c = cc in
    let rest : x ++ d ∷ y ≡ t ++ g = cc in
    let more = overlap_byte test x d y t g (and_parts (test c) (list_all test t) h).1 off rest in
    (more.0, ap (λ k. k ∷ x) same ∙ ap (λ k. c ∷ k) more.1)

-- a text without blanks at its end stands before blanks
abbrev pub no_blank_end : List ℕ → Bool
no_blank_end [] = true
no_blank_end (c ∷ t) = not (list_all is_blank (c ∷ t)) && no_blank_end t

all_front : (t g : List ℕ) → list_all is_blank (t ++ g) ≡ true → list_all is_blank t ≡ true
all_front [] g h = refl
all_front (c ∷ t) g h = let parts = and_parts (is_blank c) (list_all is_blank (t ++ g)) h in and_from (is_blank c) (list_all is_blank t) parts.0 (all_front t g parts.1)

overlap_blank : (x y t g : List ℕ) → no_blank_end t ≡ true → list_all is_blank y ≡ true → x ++ y ≡ t ++ g → (z : List ℕ) × (x ≡ t ++ z)
overlap_blank x y [] g h blank e = (x, refl)
overlap_blank [] y (c ∷ t) g h blank e =
    let none : list_all is_blank (c ∷ t) ≡ false = not-true (list_all is_blank (c ∷ t)) (and_parts (not (list_all is_blank (c ∷ t))) (no_blank_end t) h).0 in
    absurd (both_ways (list_all is_blank (c ∷ t)) none (all_front (c ∷ t) g (ap (list_all is_blank) (sym e) ∙ blank)))
overlap_blank (a ∷ x) y (c ∷ t) g h blank e =
    let same : a ≡ c = cc in
    let rest : x ++ y ≡ t ++ g = cc in
    let more = overlap_blank x y t g (and_parts (not (list_all is_blank (c ∷ t))) (no_blank_end t) h).1 blank rest in
    (more.0, ap (λ k. k ∷ x) same ∙ ap (λ k. c ∷ k) more.1)

none_left : (y : List ℕ) → list_all is_blank y ≡ true → trimmed_front y ≡ []
none_left [] h = refl
none_left (c ∷ y) h = let parts = and_parts (is_blank c) (list_all is_blank y) h in rw (parts.0, one-add) (none_left y parts.1)

front_blank : (c : ℕ) (z x y : List ℕ) → list_all is_blank y ≡ true → trimmed_front (x ++ y) ≡ c ∷ z → trimmed_front x ++ y ≡ c ∷ z
front_blank c z [] y h e = let none : [] ≡ c ∷ z = sym (none_left y h) ∙ e in cc
front_blank c z (d ∷ x) y h e =
    elim (cases_Bool (is_blank d)) [
      | inl blank ↦ let here : trimmed_front (x ++ y) ≡ c ∷ z = rw (blank, one-add) at e in rw (blank, one-add) (front_blank c z x y h here)
      | inr word ↦ let here : (d ∷ x) ++ y ≡ c ∷ z = rw word at e in rw word here
    ]

blanks_front : (l : List ℕ) → list_all is_blank (take (prefix_len is_blank l) l) ≡ true
blanks_front [] = refl
blanks_front (c ∷ l) =
    elim (cases_Bool (is_blank c)) [
      | inl blank ↦ rw (blank, one-add) (and_from (is_blank c) (list_all is_blank (take (prefix_len is_blank l) l)) blank (blanks_front l))
      | inr word ↦ rw word refl
    ]

all_append : (test : ℕ → Bool) (a b : List ℕ) → list_all test a ≡ true → list_all test b ≡ true → list_all test (a ++ b) ≡ true
all_append test [] b ha hb = hb
all_append test (c ∷ a) b ha hb = let parts = and_parts (test c) (list_all test a) ha in and_from (test c) (list_all test (a ++ b)) parts.0 (all_append test a b parts.1 hb)

pub all_reverse : (test : ℕ → Bool) (l : List ℕ) → list_all test l ≡ true → list_all test (reverse l) ≡ true
all_reverse test [] h = refl
all_reverse test (c ∷ l) h =
    let parts = and_parts (test c) (list_all test l) h in
    ap (list_all test) (reverse-append (c ∷ []) l) ∙ all_append test (reverse l) (c ∷ []) (all_reverse test l parts.1) (and_from (test c) true parts.0 refl)

-- a line as the blanks in front of it and the rest
pub halves : (l : List ℕ) → reverse l ≡ reverse (trimmed_front l) ++ reverse (take (prefix_len is_blank l) l)
halves l = ap reverse (sym (take-append-drop (prefix_len is_blank l) l)) ∙ reverse-append (take (prefix_len is_blank l) l) (trimmed_front l)

pub closes_from : (l : List ℕ) → is_closefile l ≡ true → Closes l
closes_from l h =
    let back = trimmed_front (reverse (trimmed_front l)) in
    let k = length (trimmed l) - length closing_bytes in
    let text : closing_bytes ≡ drop k (trimmed l) = (bytes_eq-Decides closing_bytes (drop k (trimmed l))).0 h in
    let whole : trimmed l ≡ take k (trimmed l) ++ closing_bytes = sym (take-append-drop k (trimmed l)) ∙ ap (λ t. take k (trimmed l) ++ t) (sym text) in
    let turned : back ≡ reverse closing_bytes ++ reverse (take k (trimmed l)) = sym (reverse-reverse back) ∙ ap reverse whole ∙ reverse-append (take k (trimmed l)) closing_bytes in
    let blanks = reverse (take (prefix_len is_blank l) l) in
    (reverse (take k (trimmed l)) ++ blanks, ap trimmed_front (halves l) ∙ front_more _ _ (reverse (trimmed_front l)) blanks turned)

pub from_closes : (l : List ℕ) → Closes l → is_closefile l ≡ true
from_closes l (g, e) =
    let back = trimmed_front (reverse (trimmed_front l)) in
    let blanks = reverse (take (prefix_len is_blank l) l) in
    let blank = all_reverse is_blank (take (prefix_len is_blank l) l) (blanks_front l) in
    let split : back ++ blanks ≡ reverse closing_bytes ++ g = front_blank _ _ (reverse (trimmed_front l)) blanks blank (ap trimmed_front (sym (halves l)) ∙ e) in
    let r = overlap_blank back blanks (reverse closing_bytes) g refl blank split in
    let whole : trimmed l ≡ reverse r.0 ++ closing_bytes = ap reverse r.1 ∙ reverse-append (reverse closing_bytes) r.0 in
    let long : length (reverse r.0 ++ closing_bytes) - length closing_bytes ≡ length (reverse r.0) = omega (arith, length-append (reverse r.0) closing_bytes) in
    let text : drop (length (trimmed l) - length closing_bytes) (trimmed l) ≡ closing_bytes =
    ap (λ t. drop (length t - length closing_bytes) t) whole ∙ ap (λ k. drop k (reverse r.0 ++ closing_bytes)) long ∙ drop-append_seam (reverse r.0) closing_bytes in
    ap (bytes_eq closing_bytes) text

-- bytes in front change nothing
pub closes_more : (x y : List ℕ) → is_closefile y ≡ true → is_closefile (x ++ y) ≡ true
closes_more x y h =
    let c = closes_from y h in
    from_closes (x ++ y) (c.0 ++ reverse x, ap trimmed_front (reverse-append x y) ∙ front_more _ _ (reverse y) (reverse x) c.1)

-- a byte that neither is a blank nor stands in the text parts what is before it from the text
pub closes_past : (x : List ℕ) (d : ℕ) (y : List ℕ) → is_blank d ≡ false → list_any (λ c. c == d) closing_bytes ≡ false → is_closefile (x ++ d ∷ y) ≡ true → is_closefile y ≡ true
closes_past x d y word off h =
    let c = closes_from (x ++ d ∷ y) h in
    let turned : reverse (x ++ d ∷ y) ≡ reverse y ++ d ∷ reverse x =
    reverse-append x (d ∷ y) ∙ ap (λ t. t ++ reverse x) (reverse-append (d ∷ []) y) ∙ append_assoc (reverse y) (d ∷ []) (reverse x) in
    let split : trimmed_front (reverse y) ++ d ∷ reverse x ≡ reverse closing_bytes ++ c.0 = sym (front_past d (reverse y) (reverse x) word) ∙ ap trimmed_front (sym turned) ∙ c.1 in
    from_closes y (overlap_byte (λ b. not (b == d)) (trimmed_front (reverse y)) d (reverse x) (reverse closing_bytes) c.0 (all_reverse (λ b. not (b == d)) closing_bytes (none_is closing_bytes off)) (rw (eq-eqb d d refl) refl) split)
  where
    none_is : (l : List ℕ) → list_any (λ c. c == d) l ≡ false → list_all (λ b. not (b == d)) l ≡ true
    none_is [] e = refl
    none_is (b ∷ l) e =
        elim (cases_Bool (b == d)) [
          | inl on ↦ let bad : true ≡ false = rw on at e in cc
          | inr other ↦ let rest : list_any (λ c. c == d) l ≡ false = rw other at e in rw other (none_is l rest)
        ]

-- a blank in front counts for nothing
pub closes_blank : (c : ℕ) (l : List ℕ) → is_blank c ≡ true → is_closefile (c ∷ l) ≡ is_closefile l
closes_blank c l h = rw (h, one-add) refl
