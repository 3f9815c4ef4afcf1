-- The parenthesis that balances, found byte by byte.
use Rattle.std.proofs.Common.{◌≡◌, ℕ, zero, suc, ◌+◌, ◌-◌, ◌==◌, Bool, true, false, not, ◌&&◌, if◌then◌else◌, List, [], ◌∷◌, ◌++◌, length, refl, sym, ◌∙◌, ap, inl, inr, arith}
use Rattle.std.specs.Prelude.{count_by}
use Rattle.std.specs.List.{position_or_len, range_with_len}
use Rattle.std.proofs.lemmas.Bool.{cases_Bool, eqb-true}
use Rattle.std.proofs.lemmas.List.{append_assoc, length-append}
use Rattle.std.proofs.lemmas.List.Sums.{sum_by-append}
use Rattle.std.proofs.Math.Seq.{get_or-append_seam, take-append_seam}
use Rattle.t1_frac.specs.Ascii.{backslash, close_parenthesis, open_parenthesis, space}
use Rattle.t1_parts.specs.Header.{escapes_blanked, balances, before_balance}

-- how many parentheses are open past a byte, which counts for nothing after a backslash
abbrev pub open_after : Bool → ℕ → ℕ → ℕ
open_after escaped depth c = if escaped then depth else if c == open_parenthesis then depth + 1 else if c == close_parenthesis then depth - 1 else depth

-- how many bytes stand before the `)` that balances, after a backslash or not, where so many parentheses are open
abbrev pub balance_from : Bool → ℕ → List ℕ → ℕ
balance_from escaped depth [] = 0
balance_from escaped depth (c ∷ rest) =
    if not escaped && c == close_parenthesis && depth == 0 then 0
    else 1 + balance_from (not escaped && c == backslash) (open_after escaped depth c) rest

-- a byte as it counts
abbrev shown : Bool → ℕ → ℕ
shown true c = space
shown false c = c

abbrev blanked_after : Bool → List ℕ → List ℕ
blanked_after true [] = []
blanked_after true (c ∷ rest) = space ∷ escapes_blanked rest
blanked_after false text = escapes_blanked text

blanked_step : (escaped : Bool) (c : ℕ) (rest : List ℕ) → blanked_after escaped (c ∷ rest) ≡ shown escaped c ∷ blanked_after (not escaped && c == backslash) rest
blanked_step true c rest = refl
blanked_step false c [] = by (c == backslash) where
  by : (b : Bool) → c ∷ [] ≡ c ∷ blanked_after b []
  by true = refl
  by false = refl
blanked_step false c (d ∷ rest) = by (c == backslash) where
  by : (b : Bool) → ◌≡◌ {A = List ℕ} (c ∷ (if b then space ∷ escapes_blanked rest else escapes_blanked (d ∷ rest))) (c ∷ blanked_after b (d ∷ rest))
  by true = refl
  by false = refl

abbrev opens : List ℕ → ℕ
opens text = count_by (λ c. c == open_parenthesis) text

abbrev closings : List ℕ → ℕ
closings text = count_by (λ c. c == close_parenthesis) text

one_more : (p : ℕ → Bool) (front : List ℕ) (b : ℕ) → count_by p (front ++ b ∷ []) ≡ count_by p front + (if p b then 1 else 0)
one_more p front b = sum_by-append (λ x. if p x then 1 else 0) front (b ∷ []) ∙ ap (λ k. count_by p front + k) (none_and (if p b then 1 else 0)) where
  none_and : (k : ℕ) → 0 + k ≡ k
  none_and k = omega arith

not_more : (p : ℕ → Bool) (front : List ℕ) (b : ℕ) → p b ≡ false → count_by p (front ++ b ∷ []) ≡ count_by p front
not_more p front b off = one_more p front b ∙ ap (λ x. count_by p front + (if x then 1 else 0)) off ∙ none_more (count_by p front) where
  none_more : (k : ℕ) → k + 0 ≡ k
  none_more k = omega arith

same_or_more : (k d : ℕ) → (k + d == k) ≡ (d == 0)
same_or_more k d = grind arith

-- a byte balances where nothing is open
here : (front : List ℕ) (escaped : Bool) (depth c : ℕ) (more : List ℕ) → opens front ≡ closings front + depth
    → balances (front ++ shown escaped c ∷ more) (length front) ≡ (not escaped && c == close_parenthesis && depth == 0)
here front escaped depth c more h =
    rw (get_or-append_seam front (shown escaped c) more 0, take-append_seam front (shown escaped c ∷ more), h, same_or_more (closings front) depth) (by escaped)
  where
    by : (escaped : Bool) → (shown escaped c == close_parenthesis && depth == 0) ≡ (not escaped && c == close_parenthesis && depth == 0)
    by true = refl
    by false = refl

-- the parentheses that are open past a byte that doesn't balance
open_past : (front : List ℕ) (escaped : Bool) (depth c : ℕ) → opens front ≡ closings front + depth → (not escaped && c == close_parenthesis && depth == 0) ≡ false
    → opens (front ++ shown escaped c ∷ []) ≡ closings (front ++ shown escaped c ∷ []) + open_after escaped depth c
open_past front true depth c h e =
    let more = one_more (λ c. c == open_parenthesis) front space in
    let fewer = one_more (λ c. c == close_parenthesis) front space in
    omega (arith, h, more, fewer)
open_past front false depth c h e =
    elim (cases_Bool (c == open_parenthesis)) [
      | inl opening ↦
          let is : c ≡ 40 = eqb-true c 40 opening in
          let more = one_more (λ c. c == open_parenthesis) front 40 in
          let fewer = one_more (λ c. c == close_parenthesis) front 40 in
          rw is (omega (arith, h, more, fewer))
      | inr other ↦ elim (cases_Bool (c == close_parenthesis)) [
        | inl closing ↦
            let is : c ≡ 41 = eqb-true c 41 closing in
            let more = one_more (λ c. c == open_parenthesis) front 41 in
            let fewer = one_more (λ c. c == close_parenthesis) front 41 in
            rw is (one_less depth _ _ _ _ (rw closing at e) h more fewer)
        | inr none ↦
            let same = not_more (λ c. c == open_parenthesis) front c other in
            let also = not_more (λ c. c == close_parenthesis) front c none in
            rw (other, none) (same ∙ h ∙ ap (λ k. k + depth) (sym also))
      ]
    ]
  where
    one_less : (depth a b x y : ℕ) → (depth == 0) ≡ false → a ≡ b + depth → x ≡ a + 0 → y ≡ b + 1 → x ≡ y + (depth - 1)
    one_less zero a b x y e h more fewer = absurd (cc)
    one_less (suc depth) a b x y e h more fewer = omega (arith, h, more, fewer)

balance_after : (front rest : List ℕ) (escaped : Bool) (depth : ℕ) → opens front ≡ closings front + depth
    → position_or_len (balances (front ++ blanked_after escaped rest)) (range_with_len (length front) (length rest)) ≡ balance_from escaped depth rest
balance_after front [] escaped depth h = refl
balance_after front (c ∷ rest) escaped depth h =
    ap (λ t. position_or_len (balances (front ++ t)) (range_with_len (length front) (suc (length rest)))) (blanked_step escaped c rest)
    ∙ by (not escaped && c == close_parenthesis && depth == 0) refl (λ passed d. balance_after passed rest (not escaped && c == backslash) d)
  where
    b : ℕ
    b = shown escaped c

    more : List ℕ
    more = blanked_after (not escaped && c == backslash) rest

    by : (found : Bool) → (not escaped && c == close_parenthesis && depth == 0) ≡ found
        → ((passed : List ℕ) (d : ℕ) → opens passed ≡ closings passed + d
        → position_or_len (balances (passed ++ more)) (range_with_len (length passed) (length rest)) ≡ balance_from (not escaped && c == backslash) d rest)
        → position_or_len (balances (front ++ b ∷ more)) (range_with_len (length front) (suc (length rest))) ≡ balance_from escaped depth (c ∷ rest)
    by true e later = let it = here front escaped depth c more h ∙ e in rw (it, e) refl
    by false e later =
        let it = here front escaped depth c more h ∙ e in
        let next : length front + 1 ≡ length (front ++ b ∷ []) = sym (length-append front (b ∷ [])) in
        rw (it, e) (
        ap (λ k. 1 + position_or_len (balances (front ++ b ∷ more)) (range_with_len k (length rest))) next
        ∙ ap (λ t. 1 + position_or_len (balances t) (range_with_len (length (front ++ b ∷ [])) (length rest))) (sym (append_assoc front (b ∷ []) more))
        ∙ ap (λ k. 1 + k) (later (front ++ b ∷ []) (open_after escaped depth c) (open_past front escaped depth c h e)))

-- from the front on
pub balance_is : (text : List ℕ) → balance_from false 0 text ≡ before_balance text
balance_is text = sym (balance_after [] text false 0 refl)
