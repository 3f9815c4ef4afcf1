-- Kerning pairs, printed and read.
use Rattle.std.proofs.Common.{◌≡◌, ℕ, ℤ, pos, negsuc, suc, Bool, true, not, ◌+◌, ◌≤◌, nat_le, Some, List, [], ◌∷◌, ◌++◌, Ok, codes, length, map, refl, sym, ◌∙◌, ap, arith, append_assoc}
use Rattle.std.specs.List.{list_all, onto_first}
use Rattle.std.specs.Fmt.{decimal, signed_decimal}
use Rattle.std.proofs.lemmas.Bool.{and_parts, and_from, leb-true, le-leb, not-true, ne_eqb}
use Rattle.std.proofs.lemmas.List.Folds.{list_all-append}
use Rattle.t1_frac.specs.Numbers.{is_number_word, number_written}
use Rattle.t1_frac.specs.Words.{is_blank, words}
use Rattle.t1_pairs.specs.declared.pairs.Pair.{Pair}
use Rattle.t1_text.specs.Lines.{lines, joined, is_line, is_line_end}
use Rattle.t1_text.specs.Names.{is_name, is_name_byte}
use Rattle.std.specs.Char.{is_ascii_digit}
use Rattle.std.proofs.lemmas.List.{append-nil}
use Rattle.t1_pairs.specs.Kerning.{kerning_value, line_pairs, pairs_from, put_all_pairs, pairs, kpx_line, kern, is_kerning_value, is_kerning_pair, precedes, are_ordered, are_pairs}
use Rattle.t1_text.proofs.TextLaws.{lines_joined}
use Rattle.t1_text.proofs.NumberLaws.{decimal_spells, digits_word, minus_word}
use Rattle.t1_pairs.proofs.PutLaws.{put_last}

-- a byte that no blank, and one that ends no line
abbrev pub is_dark : ℕ → Bool
is_dark c = not (is_blank c)

-- a byte from 33 on is neither
high_dark : (c : ℕ) → nat_le 33 c ≡ true → is_dark c ≡ true
high_dark c h =
    let high = leb-true 33 c h in
    rw (ne_eqb c 0 (omega arith), ne_eqb c 9 (omega arith), ne_eqb c 10 (omega arith), ne_eqb c 12 (omega arith), ne_eqb c 13 (omega arith), ne_eqb c 32 (omega arith)) refl

high_stays : (c : ℕ) → nat_le 33 c ≡ true → not (is_line_end c) ≡ true
high_stays c h =
    let high = leb-true 33 c h in
    rw (ne_eqb c 10 (omega arith), ne_eqb c 13 (omega arith)) refl

-- bytes from 33 on
abbrev pub are_high : List ℕ → Bool
are_high l = list_all (λ c. nat_le 33 c) l

high_name : (n : List ℕ) → list_all is_name_byte n ≡ true → are_high n ≡ true
high_name [] h = refl
high_name (c ∷ n) h = let parts = and_parts _ _ h in and_from _ _ (and_parts _ _ (and_parts _ _ (and_parts _ _ parts.0).0).0).0 (high_name n parts.1)

high_line : (l : List ℕ) → are_high l ≡ true → is_line l ≡ true
high_line [] h = refl
high_line (c ∷ l) h = let parts = and_parts _ _ h in and_from _ _ (high_stays c parts.0) (high_line l parts.1)

-- a word of such bytes, and a blank after it
word_before : (c : ℕ) (w rest : List ℕ) → are_high (c ∷ w) ≡ true → words (c ∷ w ++ 32 ∷ rest) ≡ (c ∷ w) ∷ words rest
word_before c [] rest h = let on = not-true _ (high_dark c (and_parts _ _ h).0) in rw on refl
word_before c (d ∷ w) rest h =
    let parts = and_parts _ _ h in
    let on = not-true _ (high_dark c parts.0) in
    let next = not-true _ (high_dark d (and_parts _ _ parts.1).0) in
    let more = ap (onto_first c) (word_before d w rest parts.1) in
    rw (on, next) (rw next at more)

-- such a word alone
word_alone : (c : ℕ) (w : List ℕ) → are_high (c ∷ w) ≡ true → words (c ∷ w) ≡ (c ∷ w) ∷ []
word_alone c [] h = let on = not-true _ (high_dark c (and_parts _ _ h).0) in rw on refl
word_alone c (d ∷ w) h =
    let parts = and_parts _ _ h in
    let on = not-true _ (high_dark c parts.0) in
    let next = not-true _ (high_dark d (and_parts _ _ parts.1).0) in
    let more = ap (onto_first c) (word_alone d w parts.1) in
    rw (on, next) (rw next at more)

first_word : (w rest : List ℕ) → 1 ≤ length w → are_high w ≡ true → words (w ++ 32 ∷ rest) ≡ w ∷ words rest
first_word [] rest some h = absurd (omega arith)
first_word (c ∷ w) rest some h = word_before c w rest h

last_word : (w : List ℕ) → 1 ≤ length w → are_high w ≡ true → words w ≡ w ∷ []
last_word [] some h = absurd (omega arith)
last_word (c ∷ w) some h = word_alone c w h

-- the words of a line of a pair
kpx_words : (left right number : List ℕ) → 1 ≤ length left → are_high left ≡ true → 1 ≤ length right → are_high right ≡ true → 1 ≤ length number → are_high number ≡ true
    → words (codes "KPX " ++ (left ++ 32 ∷ (right ++ 32 ∷ number))) ≡ codes "KPX" ∷ left ∷ right ∷ number ∷ []
kpx_words left right number a b c d e f =
    ap (λ t. codes "KPX" ∷ t) (first_word left (right ++ 32 ∷ number) a b ∙ ap (λ t. left ∷ t) (first_word right number c d ∙ ap (λ t. right ∷ t) (last_word number e f)))

digit_high : (ds : List ℕ) → list_all is_ascii_digit ds ≡ true → are_high ds ≡ true
digit_high [] h = refl
digit_high (d ∷ ds) h =
    let parts = and_parts _ _ h in
    let low = leb-true 48 d (and_parts _ _ parts.0).0 in
    and_from _ _ (le-leb 33 d (omega arith)) (digit_high ds parts.1)

-- a number word in range is read as its value
value_read : (w : List ℕ) (v : ℤ) → is_number_word w ≡ true → number_written w ≡ v → is_kerning_value v ≡ true → kerning_value w ≡ Some v
value_read w v word is h = rw (is, word, h) refl

-- a printed value, read
value_again : (v : ℤ) → is_kerning_value v ≡ true → kerning_value (signed_decimal v) ≡ Some v
value_again (pos n) h =
    let s = decimal_spells n (omega (arith, leb-true n 32000 h)) in
    let w = digits_word (decimal n) n s in
    value_read (decimal n) (pos n) w.0 w.1 h
value_again (negsuc n) h =
    let small = leb-true n 31999 (and_parts (nat_le n 31999) true h).0 in
    let s = decimal_spells (suc n) (omega (arith, small)) in
    let w = minus_word (decimal (suc n)) (suc n) s in
    value_read (45 ∷ decimal (suc n)) (negsuc n) w.0 w.1 h

value_high : (v : ℤ) → is_kerning_value v ≡ true → (1 ≤ length (signed_decimal v)) × (are_high (signed_decimal v) ≡ true)
value_high (pos n) h =
    let small = leb-true n 32000 h in
    let s = decimal_spells n (omega arith) in
    (s.2, digit_high (decimal n) s.0)
value_high (negsuc n) h =
    let small = leb-true n 31999 (and_parts (nat_le n 31999) true h).0 in
    let s = decimal_spells (suc n) (omega arith) in
    (omega arith, digit_high (decimal (suc n)) s.0)

name_high : (n : List ℕ) → is_name n ≡ true → (1 ≤ length n) × (are_high n ≡ true)
name_high n h = let parts = and_parts _ _ h in (leb-true 1 (length n) (and_parts _ _ parts.0).0, high_name n parts.1)

-- a printed pair, read
pair_again : (p : Pair) → is_kerning_pair p ≡ true → line_pairs (words (kpx_line p)) ≡ Ok (p ∷ [])
unfolding line_pairs
pair_again p h =
    let parts = and_parts _ _ h in
    let names = and_parts _ _ parts.0 in
    let left = name_high p.left names.0 in
    let right = name_high p.right names.1 in
    let number = value_high p.value parts.1 in
    rw (kpx_words p.left p.right (signed_decimal p.value) left.0 left.1 right.0 right.1 number.0 number.1, value_again p.value parts.1, names.0, names.1) refl

pair_line : (p : Pair) → is_kerning_pair p ≡ true → is_line (kpx_line p) ≡ true
pair_line p h =
    let parts = and_parts _ _ h in
    let names = and_parts _ _ parts.0 in
    let left = high_line p.left (name_high p.left names.0).1 in
    let right = high_line p.right (name_high p.right names.1).1 in
    let number = high_line (signed_decimal p.value) (value_high p.value parts.1).1 in
    list_all-append (λ c. not (is_line_end c)) p.left (32 ∷ (p.right ++ 32 ∷ signed_decimal p.value))
    ∙ and_from _ _ left (list_all-append (λ c. not (is_line_end c)) p.right (32 ∷ signed_decimal p.value) ∙ and_from _ _ right number)

-- the printed form as joined lines
kern_joined : (ps : List Pair) → kern ps ≡ joined (map kpx_line ps)
kern_joined [] = refl
kern_joined (p ∷ ps) = ap (λ t. (kpx_line p ++ 10 ∷ []) ++ t) (kern_joined ps)

lines_of : (ps : List Pair) → list_all is_kerning_pair ps ≡ true → list_all is_line (map kpx_line ps) ≡ true
lines_of [] h = refl
lines_of (p ∷ ps) h = let parts = and_parts _ _ h in and_from _ _ (pair_line p parts.0) (lines_of ps parts.1)

from_again : (n : ℕ) (ps : List Pair) → list_all is_kerning_pair ps ≡ true → pairs_from n (map kpx_line ps) ≡ Ok ps
from_again n [] h = refl
from_again n (p ∷ ps) h =
    let parts = and_parts _ _ h in
    rw (pair_again p parts.0, from_again (n + 1) ps parts.1) refl

-- in an ordered list what comes first precedes
before_all : (qs : List Pair) (p : Pair) (ps : List Pair) → are_ordered (qs ++ p ∷ ps) ≡ true → list_all (λ q. precedes q p) qs ≡ true
before_all [] p ps h = refl
before_all (q ∷ qs) p ps h =
    let parts = and_parts _ _ h in
    let ahead = sym (list_all-append (precedes q) qs (p ∷ ps)) ∙ parts.0 in
    and_from _ _ (and_parts _ _ (and_parts _ _ ahead).1).0 (before_all qs p ps parts.1)

put_again : (qs ps : List Pair) → are_ordered (qs ++ ps) ≡ true → put_all_pairs qs ps ≡ qs ++ ps
put_again qs [] h = sym (append-nil qs)
put_again qs (p ∷ ps) h =
    let whole = append_assoc qs (p ∷ []) ps in
    ap (λ t. put_all_pairs t ps) (put_last p qs (before_all qs p ps h)) ∙ put_again (qs ++ p ∷ []) ps (ap are_ordered whole ∙ h) ∙ whole

-- pairs that are printed are read as they were
pub kern_again : (ps : List Pair) → are_pairs ps ≡ true → pairs (kern ps) ≡ Ok ps
unfolding are_pairs pairs
kern_again ps h =
    let parts = and_parts _ _ h in
    let cut : lines (kern ps) ≡ map kpx_line ps = ap lines (kern_joined ps) ∙ lines_joined (map kpx_line ps) (lines_of ps parts.0) in
    rw (cut, from_again 1 ps parts.0) (ap Ok (put_again [] ps parts.1))
