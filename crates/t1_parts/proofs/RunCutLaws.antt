-- Bytes cut off after some of their lines.
use Rattle.std.proofs.Common.{◌≡◌, ◌<◌, ◌+◌, ◌-◌, Bool, false, suc, zero, ℕ, List, [], ◌∷◌, ◌++◌, length, take, drop, refl, sym, ◌∙◌, ap, arith}
use Rattle.std.specs.List.{list_any, slice_index_or}
use Rattle.std.proofs.lemmas.Bool.{or_parts}
use Rattle.std.proofs.lemmas.List.{append_assoc, append-nil}
use Rattle.t1_text.specs.Lines.{lines}
use Rattle.t1_text.proofs.LineLaws.{first_line_lem}
use Rattle.t1_parts.specs.Stretches.{IsCutAfter}

-- some bytes have a line
pub some_lines : (bytes : List ℕ) → 0 < length bytes → 0 < length (lines bytes)
some_lines bytes h = let first = ap length (first_line_lem bytes h) in omega (arith, first)

-- bytes cut after LF, with which they begin
pub cut_line_feed : (bytes : List ℕ) (first : ℕ) (after : List ℕ) → bytes ≡ first ∷ after → first ≡ 10
    → (j : ℕ) → lines (take (length bytes - length after + j) bytes) ≡ [] ∷ lines (take j after)
cut_line_feed bytes first after e lf j =
    let size : suc (length after) - length after + j ≡ suc j = omega arith in
    rw (e, lf) (ap (λ k. lines (take k (10 ∷ after))) size)

-- nothing cut off
pub cut_nowhere : (bytes : List ℕ) → IsCutAfter 0 bytes bytes
cut_nowhere bytes = (omega arith, omega arith, refl, λ j. (let size : length bytes - length bytes + j ≡ j = omega arith in ap (λ k. lines (take k bytes)) size))

same_head : {X : Type 0} (x y : X) (xs ys : List X) → x ∷ xs ≡ y ∷ ys → x ≡ y
same_head x y xs ys e = cc

same_tail : {X : Type 0} (x y : X) (xs ys : List X) → x ∷ xs ≡ y ∷ ys → xs ≡ ys
same_tail x y xs ys e = cc

pub one_more : {X : Type 0} (n : ℕ) (xs : List X) (y : X) (ys : List X) → drop n xs ≡ y ∷ ys → take (n + 1) xs ≡ take n xs ++ y ∷ []
one_more zero [] y ys e = absurd (cc)
one_more zero (x ∷ xs) y ys e = ap (λ z. z ∷ []) (same_head x y xs ys e)
one_more (suc n) [] y ys e = absurd (cc)
one_more (suc n) (x ∷ xs) y ys e = let size : suc n + 1 ≡ suc (n + 1) = omega arith in ap (λ k. take k (x ∷ xs)) size ∙ ap (λ l. x ∷ l) (one_more n xs y ys e)

one_less : {X : Type 0} (n : ℕ) (xs : List X) (y : X) (ys : List X) → drop n xs ≡ y ∷ ys → drop (n + 1) xs ≡ ys
one_less zero [] y ys e = absurd (cc)
one_less zero (x ∷ xs) y ys e = same_tail x y xs ys e
one_less (suc n) [] y ys e = absurd (cc)
one_less (suc n) (x ∷ xs) y ys e = let size : suc n + 1 ≡ suc (n + 1) = omega arith in ap (λ k. drop k (x ∷ xs)) size ∙ one_less n xs y ys e

-- a line further
pub cut_line_on : (n : ℕ) (bytes rest line after : List ℕ) → IsCutAfter n bytes rest → lines rest ≡ line ∷ lines after → length after < length rest
    → ((j : ℕ) → lines (take (length rest - length after + j) rest) ≡ line ∷ lines (take j after)) → IsCutAfter (n + 1) bytes after
cut_line_on n bytes rest line after h first fewer cut =
    let here : drop n (lines bytes) ≡ line ∷ lines after = sym h.2 ∙ first in
    let size = ap length first in (
      omega (arith, h.0, fewer),
      omega (arith, h.1, size),
      sym (one_less n (lines bytes) line (lines after) here),
      λ j. (let gone : length bytes - length after + j ≡ length bytes - length rest + (length rest - length after + j) = omega (arith, h.0, fewer) in
          ap (λ k. lines (take k bytes)) gone ∙ h.3 (length rest - length after + j) ∙ ap (λ ls. take n (lines bytes) ++ ls) (cut j)
          ∙ sym (append_assoc (take n (lines bytes)) (line ∷ []) (lines (take j after))) ∙ ap (λ ls. ls ++ lines (take j after)) (sym (one_more n (lines bytes) line (lines after) here))),
    )

-- the lines that are cut off
pub lines_before : (n : ℕ) (bytes rest : List ℕ) → IsCutAfter n bytes rest → lines (take (length bytes - length rest) bytes) ≡ take n (lines bytes)
lines_before n bytes rest h =
    let none : length bytes - length rest ≡ length bytes - length rest + 0 = omega arith in
    ap (λ k. lines (take k bytes)) none ∙ h.3 0 ∙ append-nil (take n (lines bytes))

-- the first of the others
pub line_at : {X : Type 0} (n : ℕ) (xs : List X) (y : X) (ys : List X) (d : X) → drop n xs ≡ y ∷ ys → slice_index_or xs n d ≡ y
line_at zero [] y ys d e = absurd (cc)
line_at zero (x ∷ xs) y ys d e = same_head x y xs ys e
line_at (suc n) [] y ys d e = absurd (cc)
line_at (suc n) (x ∷ xs) y ys d e = line_at n xs y ys d e

-- where no element passes a test, none before a place does, and none from it on
pub none_in_front : {X : Type 0} (test : X → Bool) (n : ℕ) (xs : List X) → list_any test xs ≡ false → list_any test (take n xs) ≡ false
none_in_front test zero xs h = refl
none_in_front test (suc n) [] h = refl
none_in_front test (suc n) (x ∷ xs) h =
    let off = or_parts (test x) (list_any test xs) h in
    rw (off.0, none_in_front test n xs off.1) refl

pub none_behind : {X : Type 0} (test : X → Bool) (n : ℕ) (xs : List X) → list_any test xs ≡ false → list_any test (drop n xs) ≡ false
none_behind test zero xs h = h
none_behind test (suc n) [] h = refl
none_behind test (suc n) (x ∷ xs) h = none_behind test n xs (or_parts (test x) (list_any test xs) h).1
