-- Numbers of few digits, and numbers below 0.
use Rattle.std.proofs.Common.{◌≡◌, ℕ, ℤ, pos, negsuc, ◌+◌, ◌/◌, ◌%◌, ◌≤◌, ◌<◌, List, [], ◌∷◌, ◌++◌, refl, sym, ap, ◌∙◌, append_assoc, arith}
use Rattle.std.proofs.lemmas.Fmt.{decimal_digit, decimal_step}
use Rattle.std.specs.Fmt.{decimal, signed_decimal}
use Rattle.std.specs.Prelude.{unsigned_abs}
use Rattle.t1_disassemble.specs.WordsOnto.{sign_of}

pub one_digit : (n : ℕ) → n < 10 → decimal n ≡ (48 + n % 10) ∷ []
one_digit n h = decimal_digit n h ∙ ap (λ d. (48 + d) ∷ []) (omega (arith, h))

more_digits : (n d : ℕ) (ds : List ℕ) → 10 ≤ n → n < 10000 → n / 10 ≡ d → decimal d ≡ ds → decimal n ≡ ds ++ (48 + n % 10) ∷ []
more_digits n d ds low high e h = decimal_step n low (omega (arith, high)) ∙ ap (λ m. decimal m ++ (48 + n % 10) ∷ []) e ∙ ap (λ l. l ++ (48 + n % 10) ∷ []) h

two_digits : (n : ℕ) → 10 ≤ n → n < 100 → decimal n ≡ (48 + n / 10 % 10) ∷ (48 + n % 10) ∷ []
two_digits n low high = more_digits n (n / 10) ((48 + n / 10 % 10) ∷ []) low (omega (arith, high)) refl (one_digit (n / 10) (omega (arith, high)))

three_digits : (n : ℕ) → 100 ≤ n → n < 1000 → decimal n ≡ (48 + n / 100 % 10) ∷ (48 + n / 10 % 10) ∷ (48 + n % 10) ∷ []
three_digits n low high =
    more_digits n (n / 10) ((48 + n / 100 % 10) ∷ (48 + n / 10 % 10) ∷ []) (omega (arith, low)) (omega (arith, high)) refl
    (two_digits (n / 10) (omega (arith, low)) (omega (arith, high)) ∙ ap (λ d. (48 + d % 10) ∷ (48 + n / 10 % 10) ∷ []) (omega arith))

four_digits : (n : ℕ) → 1000 ≤ n → n < 10000 → decimal n ≡ (48 + n / 1000 % 10) ∷ (48 + n / 100 % 10) ∷ (48 + n / 10 % 10) ∷ (48 + n % 10) ∷ []
four_digits n low high =
    let tens : n / 10 / 10 ≡ n / 100 = omega arith in
    let hundreds : n / 10 / 100 ≡ n / 1000 = omega arith in
    more_digits n (n / 10) ((48 + n / 1000 % 10) ∷ (48 + n / 100 % 10) ∷ (48 + n / 10 % 10) ∷ []) (omega (arith, low)) high refl
    (three_digits (n / 10) (omega (arith, low)) (omega (arith, high))
    ∙ ap (λ d. (48 + d % 10) ∷ (48 + n / 10 / 10 % 10) ∷ (48 + n / 10 % 10) ∷ []) hundreds ∙ ap (λ d. (48 + n / 1000 % 10) ∷ (48 + d % 10) ∷ (48 + n / 10 % 10) ∷ []) tens)

-- ---- digits that are put one after another

one_more : (s t u front digits : List ℕ) (d : ℕ) → t ≡ s ++ front → u ≡ t ++ d ∷ [] → digits ≡ front ++ d ∷ [] → u ≡ s ++ digits
one_more s t u front digits d p q e = q ∙ ap (λ l. l ++ d ∷ []) p ∙ append_assoc s front (d ∷ []) ∙ ap (λ l. s ++ l) (sym e)

pub put_two : (n : ℕ) (s t u : List ℕ) → 10 ≤ n → n < 100 → t ≡ s ++ (48 + n / 10 % 10) ∷ [] → u ≡ t ++ (48 + n % 10) ∷ [] → u ≡ s ++ decimal n
put_two n s t u low high p q = one_more s t u ((48 + n / 10 % 10) ∷ []) (decimal n) (48 + n % 10) p q (two_digits n low high)

pub put_three : (n : ℕ) (s t u v : List ℕ) → 100 ≤ n → n < 1000 → t ≡ s ++ (48 + n / 100 % 10) ∷ [] → u ≡ t ++ (48 + n / 10 % 10) ∷ [] → v ≡ u ++ (48 + n % 10) ∷ [] → v ≡ s ++ decimal n
put_three n s t u v low high p q r =
    let front = (48 + n / 100 % 10) ∷ (48 + n / 10 % 10) ∷ [] in
    one_more s u v front (decimal n) (48 + n % 10) (one_more s t u ((48 + n / 100 % 10) ∷ []) front (48 + n / 10 % 10) p q refl) r (three_digits n low high)

pub put_four : (n : ℕ) (s t u v w : List ℕ) → 1000 ≤ n → n < 10000 → t ≡ s ++ (48 + n / 1000 % 10) ∷ [] → u ≡ t ++ (48 + n / 100 % 10) ∷ [] → v ≡ u ++ (48 + n / 10 % 10) ∷ [] → w ≡ v ++ (48 + n % 10) ∷ [] → w ≡ s ++ decimal n
put_four n s t u v w low high p q r k =
    let two = (48 + n / 1000 % 10) ∷ (48 + n / 100 % 10) ∷ [] in
    let three = (48 + n / 1000 % 10) ∷ (48 + n / 100 % 10) ∷ (48 + n / 10 % 10) ∷ [] in
    one_more s v w three (decimal n) (48 + n % 10) (one_more s u v two three (48 + n / 10 % 10) (one_more s t u ((48 + n / 1000 % 10) ∷ []) two (48 + n / 100 % 10) p q refl) r refl) k (four_digits n low high)

pub signed_again : (n : ℤ) → sign_of n ++ decimal (unsigned_abs n) ≡ signed_decimal n
signed_again (pos n) = refl
signed_again (negsuc n) = refl
