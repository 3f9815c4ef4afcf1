-- Printed lines of items: lines, none of them the closefile line.
use Rattle.std.proofs.Common.{◌≡◌, ℕ, zero, suc, Bool, true, false, not, ◌&&◌, ◌==◌, ◌+◌, ◌/◌, ◌%◌, ◌^◌, ◌<◌, ◌≤◌, nat_le, nat_lt, List, [], ◌∷◌, ◌++◌, length, map, reverse, codes, refl, sym, ◌∙◌, ap, inl, inr, arith, append_assoc, length-append}
use Rattle.std.specs.List.{list_all, list_any, onto_first, join_with_byte}
use Rattle.std.specs.Fmt.{decimal}
use Rattle.std.proofs.lemmas.Bool.{and_parts, and_from, cases_Bool, not-true, eqb-true, le-leb, ltb-true, both_ways}
use Rattle.std.proofs.lemmas.Fmt.{decimal_by_steps}
use Rattle.std.proofs.lemmas.List.Folds.{list_all-append}
use Rattle.t1_frac.specs.Words.{is_blank, trimmed_front}
use Rattle.t1_text.specs.Lines.{is_line, is_line_end}
use Rattle.t1_text.specs.Names.{is_name, is_name_byte}
use Rattle.t1_frac.specs.Numbers.{is_number_word}
use Rattle.std.specs.Char.{is_ascii_digit}
use Rattle.t1_text.specs.Names.{is_count}
use Rattle.t1_parts.specs.Entries.{is_word, is_word_byte}
use Rattle.t1_parts.specs.Parts.{is_closefile}
use Rattle.t1_parts.specs.Printing.{body_line, last_line, word_groups, entry_lines}
use Rattle.t1_source.specs.WellFormed.{is_inner, IsEntry}
use Rattle.t1_text.proofs.NumberLaws.{decimal_spells}
use Rattle.t1_text.proofs.NumberLaws.{count_parts}
use Rattle.t1_parts.proofs.CloseLaws.{closing_bytes, closes_from, closes_more, closes_past, closes_blank, all_reverse}
use Rattle.t1_code.proofs.Scanning.{digit_no_blank}

-- a number of at most k digits
abbrev pub Short : ℕ → List ℕ → Type 0
Short n ds = (k : ℕ) → n < 10 ^ suc k → length ds ≤ suc k

short_more : (n : ℕ) (ds : List ℕ) → 10 ≤ n → Short (n / 10) ds → Short n (ds ++ (48 + n % 10) ∷ [])
short_more n ds h before zero small = absurd (omega arith)
short_more n ds h before (suc k) small =
    let here = before k (omega arith) in
    omega (arith, length-append ds ((48 + n % 10) ∷ []))

short : (n : ℕ) → n < 2 ^ 64 → Short n (decimal n)
short n h = decimal_by_steps Short (λ m small k below. omega arith) short_more n h

-- the digits of a number below 1,000,000,000 are a count
pub decimal_count : (n : ℕ) → n < 10 ^ 9 → is_count (decimal n) ≡ true
decimal_count n h =
    let s = decimal_spells n (omega arith) in
    let size = short n (omega arith) 8 h in
    and_from (nat_le 1 (length (decimal n)) && nat_le (length (decimal n)) 9) (list_all is_ascii_digit (decimal n))
    (and_from (nat_le 1 (length (decimal n))) (nat_le (length (decimal n)) 9) (le-leb 1 (length (decimal n)) s.2) (le-leb (length (decimal n)) 9 size)) s.0

-- what doesn't hold since what follows from it doesn't
pub contra : (b d : Bool) → (d ≡ true → b ≡ true) → b ≡ false → d ≡ false
contra b true f h = absurd (both_ways b h (f refl))
contra b false f h = refl

-- some digits and the last one
pub last_digit : (ds : List ℕ) → 1 ≤ length ds → list_all is_ascii_digit ds ≡ true → (x : List ℕ) × (d : ℕ) × (ds ≡ x ++ d ∷ []) × (is_ascii_digit d ≡ true)
last_digit [] some h = absurd (omega arith)
last_digit (c ∷ []) some h = ([], c, refl, (and_parts (is_ascii_digit c) true h).0)
last_digit (c ∷ e ∷ ds) some h =
    let more = last_digit (e ∷ ds) (omega arith) (and_parts (is_ascii_digit c) (list_all is_ascii_digit (e ∷ ds)) h).1 in
    (c ∷ more.0, more.1, ap (λ t. c ∷ t) more.2, more.3)

-- a byte that passes a test stands in no text whose bytes fail it
none_like : (test : ℕ → Bool) (d : ℕ) (t : List ℕ) → list_all (λ c. not (test c)) t ≡ true → test d ≡ true → list_any (λ c. c == d) t ≡ false
none_like test d [] h on = refl
none_like test d (c ∷ t) h on =
    let parts = and_parts (not (test c)) (list_all (λ c. not (test c)) t) h in
    elim (cases_Bool (c == d)) [
      | inl same ↦ absurd (both_ways (test c) (not-true (test c) parts.0) (ap test (eqb-true c d same) ∙ on))
      | inr other ↦ rw other (none_like test d t parts.1 on)
    ]

-- after digits
pub digits_past : (ds y : List ℕ) → 1 ≤ length ds → list_all is_ascii_digit ds ≡ true → (x : List ℕ) → is_closefile (x ++ (ds ++ y)) ≡ true → is_closefile y ≡ true
digits_past ds y some h x on =
    let r = last_digit ds some h in
    let split : x ++ (ds ++ y) ≡ (x ++ r.0) ++ r.1 ∷ y = ap (λ t. x ++ (t ++ y)) r.2 ∙ ap (λ t. x ++ t) (append_assoc r.0 (r.1 ∷ []) y) ∙ sym (append_assoc x r.0 (r.1 ∷ y)) in
    closes_past (x ++ r.0) r.1 y (digit_no_blank r.1 r.3) (none_like is_ascii_digit r.1 closing_bytes refl r.3) (ap is_closefile (sym split) ∙ on)

pub line_parts : (a b : List ℕ) → is_line (a ++ b) ≡ true → (is_line a ≡ true) × (is_line b ≡ true)
line_parts a b h = and_parts (is_line a) (is_line b) (sym (list_all-append (λ c. not (is_line_end c)) a b) ∙ h)

pub line_append : (a b : List ℕ) → is_line a ≡ true → is_line b ≡ true → is_line (a ++ b) ≡ true
line_append a b p q = list_all-append (λ c. not (is_line_end c)) a b ∙ and_from (is_line a) (is_line b) p q

digit_line : (d : ℕ) → is_ascii_digit d ≡ true → not (is_line_end d) ≡ true
digit_line d h = elim (cases_Bool (is_line_end d)) [
  | inl on ↦ absurd (end_digit d on h)
  | inr off ↦ rw off refl
]
  where
    end_digit : (c : ℕ) → is_line_end c ≡ true → is_ascii_digit c ≡ true → ⊥
    end_digit c e k =
        elim (cases_Bool (c == 10)) [
          | inl lf ↦ both_ways (is_ascii_digit c) (ap is_ascii_digit (eqb-true c 10 lf)) k
          | inr other ↦ let cr : (c == 13) ≡ true = rw other at e in both_ways (is_ascii_digit c) (ap is_ascii_digit (eqb-true c 13 cr)) k
        ]

pub digits_line : (ds : List ℕ) → list_all is_ascii_digit ds ≡ true → is_line ds ≡ true
digits_line [] h = refl
digits_line (d ∷ ds) h = let parts = and_parts (is_ascii_digit d) (list_all is_ascii_digit ds) h in and_from (not (is_line_end d)) (is_line ds) (digit_line d parts.0) (digits_line ds parts.1)

pub inner_parts : (l : List ℕ) → is_inner l ≡ true → (is_line l ≡ true) × (is_closefile l ≡ false)
inner_parts l h = let parts = and_parts (is_line l) (not (is_closefile l)) h in (parts.0, not-true (is_closefile l) parts.1)

pub inner_from : (l : List ℕ) → is_line l ≡ true → is_closefile l ≡ false → is_inner l ≡ true
inner_from l p q = and_from (is_line l) (not (is_closefile l)) p (rw q refl)

-- a section line before the closefile line is so with any count
pub inner_other : (before after ds es : List ℕ) → is_count ds ≡ true → is_count es ≡ true → is_inner (before ++ (ds ++ after)) ≡ true → is_inner (before ++ (es ++ after)) ≡ true
inner_other before after ds es hd he h =
    let here = inner_parts (before ++ (ds ++ after)) h in
    let outer = line_parts before (ds ++ after) here.0 in
    let back = line_parts ds after outer.1 in
    let d = count_parts ds hd in
    let e = count_parts es he in
    inner_from (before ++ (es ++ after)) (line_append before (es ++ after) outer.0 (line_append es after (digits_line es e.2) back.1))
    (contra (is_closefile (before ++ (ds ++ after))) (is_closefile (before ++ (es ++ after)))
    (λ on. ap is_closefile (sym (append_assoc before ds after)) ∙ closes_more (before ++ ds) after (digits_past es after e.0 e.2 before on)) here.1)

-- whether all words but the last are numbers
abbrev pub is_group : List (List ℕ) → Bool
is_group [] = true
is_group (w ∷ []) = true
is_group (w ∷ v ∷ g) = is_number_word w && is_group (v ∷ g)

onto_group : (w : List ℕ) (gs : List (List (List ℕ))) → is_number_word w ≡ true → list_all is_group gs ≡ true → list_all is_group (onto_first w gs) ≡ true
onto_group w [] h hs = refl
onto_group w ([] ∷ gs) h hs = hs
onto_group w ((v ∷ g) ∷ gs) h hs =
    let parts = and_parts (is_group (v ∷ g)) (list_all is_group gs) hs in
    and_from (is_group (w ∷ v ∷ g)) (list_all is_group gs) (and_from (is_number_word w) (is_group (v ∷ g)) h parts.0) parts.1

are_groups : (ws : List (List ℕ)) → list_all is_group (word_groups ws) ≡ true
are_groups [] = refl
are_groups (w ∷ ws) =
    elim (cases_Bool (is_number_word w)) [
      | inl number ↦ rw number (onto_group w (word_groups ws) number (are_groups ws))
      | inr other ↦ rw other (are_groups ws)
    ]

onto_all : (test : List ℕ → Bool) (w : List ℕ) (gs : List (List (List ℕ))) → test w ≡ true → list_all (list_all test) gs ≡ true → list_all (list_all test) (onto_first w gs) ≡ true
onto_all test w [] h hs = and_from (test w && true) true (and_from (test w) true h refl) refl
onto_all test w (g ∷ gs) h hs =
    let parts = and_parts (list_all test g) (list_all (list_all test) gs) hs in
    and_from (list_all test (w ∷ g)) (list_all (list_all test) gs) (and_from (test w) (list_all test g) h parts.0) parts.1

groups_all : (test : List ℕ → Bool) (ws : List (List ℕ)) → list_all test ws ≡ true → list_all (list_all test) (word_groups ws) ≡ true
groups_all test [] h = refl
groups_all test (w ∷ ws) h =
    let parts = and_parts (test w) (list_all test ws) h in
    let more = groups_all test ws parts.1 in
    elim (cases_Bool (is_number_word w)) [
      | inl number ↦ rw number (onto_all test w (word_groups ws) parts.0 more)
      | inr other ↦ rw other (and_from (test w && true) (list_all (list_all test) (word_groups ws)) (and_from (test w) true parts.0 refl) more)
    ]

-- the digits at the end of a number word
digits_some : (ds : List ℕ) → (nat_lt 0 (length ds) && list_all is_ascii_digit ds) ≡ true → (1 ≤ length ds) × (list_all is_ascii_digit ds ≡ true)
digits_some ds h = let parts = and_parts (nat_lt 0 (length ds)) (list_all is_ascii_digit ds) h in (ltb-true 0 (length ds) parts.0, parts.1)

number_past : (w y : List ℕ) → is_number_word w ≡ true → is_closefile (w ++ y) ≡ true → is_closefile y ≡ true
unfolding is_number_word
number_past [] y h on = on
number_past (c ∷ ds) y h on =
    elim (cases_Bool (c == 45)) [
      | inl minus ↦ let r = digits_some ds (rw minus at h) in digits_past ds y r.0 r.1 (c ∷ []) on
      | inr plain ↦ let r = digits_some (c ∷ ds) (rw plain at h) in digits_past (c ∷ ds) y r.0 r.1 [] on
    ]

full : (l : List ℕ) → list_all is_word_byte l ≡ true → list_all (λ c. not (is_blank c)) l ≡ true
full [] h = refl
full (c ∷ l) h =
    let parts = and_parts (is_word_byte c) (list_all is_word_byte l) h in
    and_from (not (is_blank c)) (list_all (λ c. not (is_blank c)) l) (and_parts (not (is_blank c)) _ parts.0).0 (full l parts.1)

full_front : (l : List ℕ) → list_all (λ c. not (is_blank c)) l ≡ true → trimmed_front l ≡ l
full_front [] h = refl
full_front (c ∷ l) h = let off = not-true (is_blank c) (and_parts (not (is_blank c)) (list_all (λ c. not (is_blank c)) l) h).0 in rw off refl

-- a word is no closefile line, since that has blanks
word_open : (w : List ℕ) → list_all is_word_byte w ≡ true → is_closefile w ≡ false
word_open w h =
    elim (cases_Bool (is_closefile w)) [
      | inl on ↦
          let c = closes_from w on in
          let bytes = all_reverse (λ b. not (is_blank b)) w (full w h) in
          let same : reverse w ≡ reverse closing_bytes ++ c.0 = sym (full_front (reverse w) bytes) ∙ c.1 in
          absurd (both_ways (list_all (λ b. not (is_blank b)) (reverse w)) (ap (list_all (λ b. not (is_blank b))) same) bytes)
      | inr off ↦ off
    ]

pub is_word_bytes : (w : List ℕ) → is_word w ≡ true → list_all is_word_byte w ≡ true
is_word_bytes [] h = refl
is_word_bytes (c ∷ w) h = h

words_open : (g : List (List ℕ)) → list_all is_word g ≡ true → is_group g ≡ true → is_closefile (join_with_byte 32 g) ≡ false
words_open [] h k = refl
words_open (w ∷ []) h k = word_open w (is_word_bytes w (and_parts (is_word w) true h).0)
words_open (w ∷ v ∷ g) h k =
    let parts = and_parts (is_word w) (list_all is_word (v ∷ g)) h in
    let number = and_parts (is_number_word w) (is_group (v ∷ g)) k in
    let rest = join_with_byte 32 (v ∷ g) in
    contra (is_closefile rest) (is_closefile (w ++ 32 ∷ rest)) (λ on. sym (closes_blank 32 rest refl) ∙ number_past w (32 ∷ rest) number.0 on) (words_open (v ∷ g) parts.1 number.1)

joined_line : (g : List (List ℕ)) → list_all is_line g ≡ true → is_line (join_with_byte 32 g) ≡ true
joined_line [] h = refl
joined_line (w ∷ []) h = (and_parts (is_line w) true h).0
joined_line (w ∷ v ∷ g) h =
    let parts = and_parts (is_line w) (list_all is_line (v ∷ g)) h in
    line_append w (32 ∷ join_with_byte 32 (v ∷ g)) parts.0 (joined_line (v ∷ g) parts.1)

body_inner : (gs : List (List (List ℕ))) → list_all (list_all is_word) gs ≡ true → list_all (list_all is_line) gs ≡ true → list_all is_group gs ≡ true → list_all is_inner (map body_line gs) ≡ true
body_inner [] h k m = refl
body_inner (g ∷ gs) h k m =
    let words = and_parts (list_all is_word g) (list_all (list_all is_word) gs) h in
    let lines = and_parts (list_all is_line g) (list_all (list_all is_line) gs) k in
    let groups = and_parts (is_group g) (list_all is_group gs) m in
    let here = inner_from (body_line g) (joined_line g lines.0) (closes_blank 9 (join_with_byte 32 g) refl ∙ words_open g words.0 groups.0) in
    and_from (is_inner (body_line g)) (list_all is_inner (map body_line gs)) here (body_inner gs words.1 lines.1 groups.1)

-- the lines of a printed entry
pub entry_inner : (head : List ℕ) (ws : List (List ℕ)) (closing : List ℕ) → is_inner head ≡ true → IsEntry ws closing → list_all is_inner (entry_lines head ws closing) ≡ true
entry_inner head ws closing first h =
    let body = body_inner (word_groups ws) (groups_all is_word ws h.0) (groups_all is_line ws h.1) (are_groups ws) in
    let rest = list_all-append is_inner (map body_line (word_groups ws)) (last_line closing ∷ []) ∙ and_from (list_all is_inner (map body_line (word_groups ws))) (is_inner (last_line closing) && true) body (and_from (is_inner (last_line closing)) true h.3 refl) in
    and_from (is_inner head) (list_all is_inner (map body_line (word_groups ws) ++ last_line closing ∷ [])) first rest

brace_open : (x : List ℕ) → is_closefile (x ++ 123 ∷ []) ≡ false
brace_open x = contra (is_closefile []) (is_closefile (x ++ 123 ∷ [])) (λ on. closes_past x 123 [] refl refl on) refl

-- the first line of a printed Subr, and that of a glyph
pub subr_inner : (n : ℕ) → n < 2 ^ 64 → is_inner (codes "dup " ++ (decimal n ++ codes " {")) ≡ true
subr_inner n h =
    let s = decimal_spells n h in
    let split : (codes "dup " ++ (decimal n ++ 32 ∷ [])) ++ 123 ∷ [] ≡ codes "dup " ++ (decimal n ++ codes " {") = ap (λ t. codes "dup " ++ t) (append_assoc (decimal n) (32 ∷ []) (123 ∷ [])) in
    inner_from (codes "dup " ++ (decimal n ++ codes " {")) (line_append (codes "dup ") (decimal n ++ codes " {") refl (line_append (decimal n) (codes " {") (digits_line (decimal n) s.0) refl))
    (ap is_closefile (sym split) ∙ brace_open (codes "dup " ++ (decimal n ++ 32 ∷ [])))

name_line : (g : List ℕ) → list_all is_name_byte g ≡ true → is_line g ≡ true
name_line [] h = refl
name_line (c ∷ g) h =
    let parts = and_parts (is_name_byte c) (list_all is_name_byte g) h in
    and_from (not (is_line_end c)) (is_line g) (name_stays c parts.0) (name_line g parts.1)
  where
    end_name : (c : ℕ) → is_line_end c ≡ true → is_name_byte c ≡ false
    end_name c e =
        elim (cases_Bool (c == 10)) [
          | inl lf ↦ ap is_name_byte (eqb-true c 10 lf)
          | inr other ↦ let cr : (c == 13) ≡ true = rw other at e in ap is_name_byte (eqb-true c 13 cr)
        ]

    name_stays : (c : ℕ) → is_name_byte c ≡ true → not (is_line_end c) ≡ true
    name_stays c h = elim (cases_Bool (is_line_end c)) [
      | inl on ↦ absurd (both_ways (is_name_byte c) (end_name c on) h)
      | inr off ↦ rw off refl
    ]

pub name_is_line : (g : List ℕ) → is_name g ≡ true → is_line g ≡ true
name_is_line g h = name_line g (and_parts (nat_le 1 (length g) && nat_le (length g) 127) (list_all is_name_byte g) h).1

pub glyph_inner : (g : List ℕ) → is_name g ≡ true → is_inner (47 ∷ (g ++ codes " {")) ≡ true
glyph_inner g h =
    let split : (47 ∷ (g ++ 32 ∷ [])) ++ 123 ∷ [] ≡ 47 ∷ (g ++ codes " {") = ap (λ t. 47 ∷ t) (append_assoc g (32 ∷ []) (123 ∷ [])) in
    inner_from (47 ∷ (g ++ codes " {")) (line_append g (codes " {") (name_is_line g h) refl) (ap is_closefile (sym split) ∙ brace_open (47 ∷ (g ++ 32 ∷ [])))
