-- What is read from a kerning file, or made by edits, are pairs as a kerning file has them.
use Rattle.std.proofs.Common.{◌≡◌, ℕ, zero, suc, ℤ, Bool, true, ◌+◌, ◌&&◌, Option, Some, None, List, [], ◌∷◌, ◌++◌, Ok, ok_or, option_map, codes, refl, sym, ◌∙◌, ap, inl, inr}
use Rattle.std.specs.List.{list_all, remove}
use Rattle.std.proofs.lemmas.Bool.{and_parts, and_from, cases_Bool}
use Rattle.std.proofs.lemmas.List.Folds.{list_all-append}
use Rattle.t1_frac.specs.declared.fault.Code.TheVariants.{F12}
use Rattle.t1_frac.specs.declared.fault.Place.TheVariants.{Line}
use Rattle.t1_frac.specs.Outcome.{reported_at, ◌>>=◌}
use Rattle.t1_frac.specs.Words.{words}
use Rattle.t1_pairs.specs.declared.pairs.Pair.{Pair}
use Rattle.t1_text.specs.Tokens.{first_is}
use Rattle.t1_frac.specs.Numbers.{is_number_word, number_written}
use Rattle.t1_text.specs.Names.{is_name}
use Rattle.t1_pairs.specs.Kerning.{kerning_value, small, pair_of, kpx_of, is_left_out, line_pairs, pairs_from, pairs_with, put_pair, put_all_pairs, is_kerning_value, is_kerning_pair, precedes, are_ordered, are_pairs}
use Rattle.t1_frac.proofs.OutcomeLaws.{bind_ok, reported_ok}
use Rattle.t1_pairs.proofs.PutLaws.{put_keeps, put_ordered}

-- a value that was read is in range
small_good : (n v : ℤ) → small n ≡ Some v → is_kerning_value v ≡ true
small_good n v e =
    elim (cases_Bool (is_kerning_value n)) [
      | inl on ↦ let same : n ≡ v = (let is : Some n ≡ Some v = rw on at e in cc) in ap is_kerning_value (sym same) ∙ on
      | inr off ↦ let none : None ≡ Some v = rw off at e in cc
    ]

value_good : (w : List ℕ) (v : ℤ) → kerning_value w ≡ Some v → is_kerning_value v ≡ true
value_good w v e =
    elim (cases_Bool (is_number_word w)) [
      | inl on ↦ small_good (number_written w) v (rw on at e)
      | inr off ↦ let none : None ≡ Some v = rw off at e in cc
    ]

pair_good : (left right : List ℕ) (o : Option ℤ) (p : Pair) → ((v : ℤ) → o ≡ Some v → is_kerning_value v ≡ true) → pair_of left right o ≡ Some p → is_kerning_pair p ≡ true
pair_good left right None p value e = cc
pair_good left right (Some v) p value e =
    elim (cases_Bool (is_name left && is_name right)) [
      | inl named ↦
          let same : record { left = left; right = right; value = v } ≡ p = (let is : Some (record { left = left; right = right; value = v }) ≡ Some p = rw named at e in cc) in
          ap is_kerning_pair (sym same) ∙ and_from _ _ named (value v refl)
      | inr unnamed ↦ let none : None ≡ Some p = rw unnamed at e in cc
    ]

kpx_good : (ws : List (List ℕ)) (p : Pair) → kpx_of ws ≡ Some p → is_kerning_pair p ≡ true
kpx_good [] p e = cc
kpx_good (a ∷ []) p e = cc
kpx_good (a ∷ b ∷ []) p e = cc
kpx_good (a ∷ b ∷ c ∷ []) p e = cc
kpx_good (a ∷ left ∷ right ∷ n ∷ []) p e = pair_good left right (kerning_value n) p (value_good n) e
kpx_good (a ∷ b ∷ c ∷ d ∷ x ∷ more) p e = cc

one_good : (o : Option Pair) (ps : List Pair) → ((p : Pair) → o ≡ Some p → is_kerning_pair p ≡ true) → ok_or (option_map (λ p. p ∷ []) o) F12 ≡ Ok ps → list_all is_kerning_pair ps ≡ true
one_good None ps good e = cc
one_good (Some p) ps good e = let same : p ∷ [] ≡ ps = cc in ap (list_all is_kerning_pair) (sym same) ∙ and_from (is_kerning_pair p) true (good p refl) refl

line_good : (ws : List (List ℕ)) (ps : List Pair) → line_pairs ws ≡ Ok ps → list_all is_kerning_pair ps ≡ true
unfolding line_pairs
line_good ws ps e =
    elim (cases_Bool (first_is (codes "KPX") ws)) [
      | inl kpx ↦ one_good (kpx_of ws) ps (kpx_good ws) (rw kpx at e)
      | inr other ↦ elim (cases_Bool (is_left_out ws)) [
        | inl out ↦ let none = rw (other, out) at e in cc
        | inr ignored ↦ let none = rw (other, ignored) at e in let same : [] ≡ ps = cc in ap (list_all is_kerning_pair) (sym same)
      ]
    ]

from_good : (n : ℕ) (ls : List (List ℕ)) (ps : List Pair) → pairs_from n ls ≡ Ok ps → list_all is_kerning_pair ps ≡ true
from_good n [] ps e = let same : [] ≡ ps = cc in ap (list_all is_kerning_pair) (sym same)
from_good n (l ∷ ls) ps e =
    let first = bind_ok (reported_at (Line n) (line_pairs (words l))) (λ qs. pairs_from (n + 1) ls >>= λ more. Ok (qs ++ more)) ps e in
    let here = line_good (words l) first.0 (reported_ok (Line n) (line_pairs (words l)) first.0 first.1) in
    let later = bind_ok (pairs_from (n + 1) ls) (λ more. Ok (first.0 ++ more)) ps first.2 in
    let following = from_good (n + 1) ls later.0 later.1 in
    let same : first.0 ++ later.0 ≡ ps = (let is : Ok (first.0 ++ later.0) ≡ Ok ps = later.2 in cc) in
    ap (list_all is_kerning_pair) (sym same) ∙ list_all-append is_kerning_pair first.0 later.0 ∙ and_from _ _ here following

-- a pair put in
pub put_pairs : (p : Pair) (ps : List Pair) → is_kerning_pair p ≡ true → are_pairs ps ≡ true → are_pairs (put_pair p ps) ≡ true
unfolding are_pairs
put_pairs p ps good h =
    let parts = and_parts _ _ h in
    let value = (and_parts (is_name p.left && is_name p.right) (is_kerning_value p.value) good).1 in
    and_from _ _ (put_keeps is_kerning_pair p good
    (λ q k. and_from (is_name q.left && is_name q.right) (is_kerning_value p.value) (and_parts (is_name q.left && is_name q.right) (is_kerning_value q.value) k).0 value) ps parts.0)
    (put_ordered p ps parts.1)

put_all_well_formed : (ps qs : List Pair) → list_all is_kerning_pair ps ≡ true → are_pairs qs ≡ true → are_pairs (put_all_pairs qs ps) ≡ true
put_all_well_formed [] qs good h = h
put_all_well_formed (p ∷ ps) qs good h = let parts = and_parts _ _ good in put_all_well_formed ps (put_pair p qs) parts.1 (put_pairs p qs parts.0 h)

pub no_pairs : are_pairs [] ≡ true
unfolding are_pairs
no_pairs = refl

-- the pairs of lines
pub lines_good : (n : ℕ) (ls : List (List ℕ)) (ps : List Pair) → pairs_with [] n ls ≡ Ok ps → are_pairs ps ≡ true
lines_good n ls ps e =
    let read = bind_ok (pairs_from n ls) (λ qs. Ok (put_all_pairs [] qs)) ps e in
    let same : put_all_pairs [] read.0 ≡ ps = (let is : Ok (put_all_pairs [] read.0) ≡ Ok ps = read.2 in cc) in
    ap are_pairs (sym same) ∙ put_all_well_formed read.0 [] (from_good n ls read.0 read.1) no_pairs

none_removed : {X : Type 0} (at : ℕ) → remove {X = X} [] at ≡ []
none_removed zero = refl
none_removed (suc at) = refl

all_removed : (test : Pair → Bool) (at : ℕ) (ps : List Pair) → list_all test ps ≡ true → list_all test (remove ps at) ≡ true
all_removed test at [] h = ap (list_all test) (none_removed at)
all_removed test zero (p ∷ ps) h = (and_parts _ _ h).1
all_removed test (suc at) (p ∷ ps) h = let parts = and_parts _ _ h in and_from _ _ parts.0 (all_removed test at ps parts.1)

ordered_removed : (at : ℕ) (ps : List Pair) → are_ordered ps ≡ true → are_ordered (remove ps at) ≡ true
ordered_removed at [] h = ap are_ordered (none_removed at)
ordered_removed zero (p ∷ ps) h = (and_parts _ _ h).1
ordered_removed (suc at) (p ∷ ps) h = let parts = and_parts _ _ h in and_from _ _ (all_removed (precedes p) at ps parts.0) (ordered_removed at ps parts.1)

-- a pair taken out
pub removed_pairs : (ps : List Pair) (at : ℕ) → are_pairs ps ≡ true → are_pairs (remove ps at) ≡ true
unfolding are_pairs
removed_pairs ps at h = let parts = and_parts _ _ h in and_from _ _ (all_removed is_kerning_pair at ps parts.0) (ordered_removed at ps parts.1)
