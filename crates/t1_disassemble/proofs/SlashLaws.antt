-- Bytes without a slash have no section line in them.
use Rattle.std.proofs.Common.{◌≡◌, ℕ, zero, suc, Bool, true, false, not, ◌==◌, ◌&&◌, ◌+◌, ◌≤◌, ◌<◌, List, [], ◌∷◌, ◌++◌, length, take, drop, take_all, codes, Option, None, refl, sym, ap, ◌∙◌, subst, inl, inr, arith}
use Rattle.std.proofs.lemmas.Bool.{cases_Bool, and_parts, and_from, ne_eqb}
use Rattle.std.proofs.lemmas.List.{take-take, take-append-drop}
use Rattle.std.proofs.lemmas.List.Elements.{filter-append}
use Rattle.std.specs.List.{list_all, onto_first, prefix_len}
use Rattle.std.specs.Str.{bytes_eq}
use Rattle.std.specs.Prelude.{filter, is_some, option_map}
use Rattle.t1_frac.specs.Words.{is_blank}
use Rattle.t1_text.specs.Lines.{begins_with, is_line, is_line_end, unified, split_lines, lines}
use Rattle.t1_text.specs.Tokens.{is_bracket, token_goes_on, onto_place, joins_at, places_from}
use Rattle.t1_parts.specs.Sections.{count_between, section_at, subrs_line, glyphs_line}
use Rattle.t1_disassemble.specs.Kinds.{is_line_of}
use Rattle.t1_disassemble.specs.CutWords.{slashless}

-- ---- the lines of such bytes

unified_free : (t : List ℕ) → list_all slashless t ≡ true → list_all slashless (unified t) ≡ true
unified_free [] h = refl
unified_free (c ∷ rest) h =
    let parts = and_parts (slashless c) (list_all slashless rest) h in
    let more = unified_free rest parts.1 in
    elim (cases_Bool (c == 13)) [
      | inl t ↦ elim (cases_Bool (begins_with 10 rest)) [
        | inl lf ↦ rw (t, lf) more
        | inr other ↦ rw (t, other) more
      ]
      | inr f ↦ rw f (and_from (slashless c) (list_all slashless (unified rest)) parts.0 more)
    ]

onto_free : (c : ℕ) (ls : List (List ℕ)) → slashless c ≡ true → list_all (list_all slashless) ls ≡ true → list_all (list_all slashless) (onto_first c ls) ≡ true
onto_free c [] one h = rw one refl
onto_free c (l ∷ ls) one h =
    let parts = and_parts (list_all slashless l) (list_all (list_all slashless) ls) h in
    and_from (list_all slashless (c ∷ l)) (list_all (list_all slashless) ls) (and_from (slashless c) (list_all slashless l) one parts.0) parts.1

split_free : (t : List ℕ) → list_all slashless t ≡ true → list_all (list_all slashless) (split_lines t) ≡ true
split_free [] h = refl
split_free (c ∷ rest) h =
    let parts = and_parts (slashless c) (list_all slashless rest) h in
    let more = split_free rest parts.1 in
    elim (cases_Bool (c == 10)) [
      | inl t ↦ rw t more
      | inr f ↦ rw f (onto_free c (split_lines rest) parts.0 more)
    ]

lines_free : (t : List ℕ) → list_all slashless t ≡ true → list_all (list_all slashless) (lines t) ≡ true
lines_free t h = split_free (unified t) (unified_free t h)

-- ---- the tokens of a line of which each byte passes a test

-- a word whose first byte passes it
abbrev pub begins_by : (ℕ → Bool) → List ℕ → Bool
begins_by test [] = true
begins_by test (c ∷ w) = test c

abbrev pub token_by : (ℕ → Bool) → ℕ × List ℕ → Bool
token_by test t = begins_by test t.1

joins_by : (test : ℕ → Bool) (i c : ℕ) (rest : List ℕ) (ts : List (ℕ × List ℕ)) → test c ≡ true → list_all (token_by test) ts ≡ true → list_all (token_by test) (joins_at i c rest ts) ≡ true
joins_by test i c rest ts one h = elim (cases_Bool (token_goes_on rest)) [
  | inl t ↦ rw t (first ts h)
  | inr f ↦ rw f (and_from (test c) (list_all (token_by test) ts) one h)
]
  where
    first : (ts : List (ℕ × List ℕ)) → list_all (token_by test) ts ≡ true → list_all (token_by test) (onto_place i c ts) ≡ true
    first [] k = and_from (test c) true one refl
    first (t ∷ more) k = and_from (test c) (list_all (token_by test) more) one (and_parts (token_by test t) (list_all (token_by test) more) k).1

pub places_by : (test : ℕ → Bool) (i : ℕ) (l : List ℕ) → list_all test l ≡ true → list_all (token_by test) (places_from i l) ≡ true
places_by test i [] h = refl
places_by test i (c ∷ rest) h =
    let parts = and_parts (test c) (list_all test rest) h in
    let more = places_by test (i + 1) rest parts.1 in
    elim (cases_Bool (is_blank c)) [
      | inl t ↦ rw t more
      | inr f ↦ rw f (elim (cases_Bool (c == 37)) [
        | inl t ↦ rw t refl
        | inr g ↦ rw g (elim (cases_Bool (is_bracket c)) [
          | inl t ↦ rw t (and_from (test c) (list_all (token_by test) (places_from (i + 1) rest)) parts.0 more)
          | inr k ↦ rw k (joins_by test i c rest (places_from (i + 1) rest) parts.0 more)
        ])
      ])
    ]

-- ---- the tokens of a line without a slash

-- a word that doesn't begin with a slash
abbrev pub free_word : List ℕ → Bool
free_word w = begins_by slashless w

abbrev pub free : ℕ × List ℕ → Bool
free t = token_by slashless t

pub places_free : (i : ℕ) (l : List ℕ) → list_all slashless l ≡ true → list_all free (places_from i l) ≡ true
places_free i l h = places_by slashless i l h

-- ---- no section begins there

not_true : (b : Bool) → not b ≡ true → b ≡ false
not_true true h = sym h
not_true false h = refl

pub other_key : (w key : List ℕ) → free_word w ≡ true → bytes_eq w (47 ∷ key) ≡ false
other_key [] key h = refl
other_key (c ∷ w) key h = rw (not_true (c == 47) h) refl

pub count_none : (key word : List ℕ) (ts : List (ℕ × List ℕ)) → list_all free ts ≡ true → count_between (47 ∷ key) word ts ≡ None
count_none key word [] h = refl
count_none key word (a ∷ []) h = refl
count_none key word (a ∷ n ∷ []) h = refl
count_none key word (a ∷ n ∷ b ∷ more) h =
    let parts = and_parts (free a) (list_all free (n ∷ b ∷ more)) h in
    rw (other_key a.1 key parts.0) (count_none key word (n ∷ b ∷ more) parts.1)

no_and : (b : Bool) → (b && false) ≡ false
no_and true = refl
no_and false = refl

pub no_subrs : (l : List ℕ) → list_all slashless l ≡ true → is_line_of subrs_line l ≡ false
no_subrs l h =
    ap (λ (o : Option (ℕ × List ℕ)). not (begins_with 9 l) && is_some (option_map (section_at l) o)) (count_none (codes "Subrs") (codes "array") (places_from 0 l) (places_free 0 l h))
    ∙ no_and (not (begins_with 9 l))

pub no_glyphs : (l : List ℕ) → list_all slashless l ≡ true → is_line_of glyphs_line l ≡ false
no_glyphs l h =
    ap (λ (o : Option (ℕ × List ℕ)). not (begins_with 9 l) && is_some (option_map (section_at l) o)) (count_none (codes "CharStrings") (codes "dict") (places_from 0 l) (places_free 0 l h))
    ∙ no_and (not (begins_with 9 l))

none_of : (test : List ℕ → Bool) → ((l : List ℕ) → list_all slashless l ≡ true → test l ≡ false) → (ls : List (List ℕ)) → list_all (list_all slashless) ls ≡ true → filter test ls ≡ []
none_of test each [] h = refl
none_of test each (l ∷ ls) h =
    let parts = and_parts (list_all slashless l) (list_all (list_all slashless) ls) h in
    rw (each l parts.0) (none_of test each ls parts.1)

-- bytes without a slash in front of others hold none of the lines that are looked for
pub passed : (test : List ℕ → Bool) → ((l : List ℕ) → list_all slashless l ≡ true → test l ≡ false) → (front back : List ℕ) → list_all slashless front ≡ true → lines (front ++ back) ≡ lines front ++ lines back
    → filter test (lines (front ++ back)) ≡ filter test (lines back)
passed test each front back h e =
    ap (filter test) e ∙ filter-append test (lines front) (lines back) ∙ ap (λ (k : List (List ℕ)). k ++ filter test (lines back)) (none_of test each (lines front) (lines_free front h))

-- ---- the place of the first slash

pub all_front : (bytes : List ℕ) (n : ℕ) → n ≤ prefix_len slashless bytes → list_all slashless (take n bytes) ≡ true
all_front bytes zero h = refl
all_front [] (suc n) h = refl
all_front (c ∷ rest) (suc n) h = elim (cases_Bool (slashless c)) [
  | inl t ↦ (let more : n ≤ prefix_len slashless rest = (let k = rw t at h in omega (arith, k)) in and_from (slashless c) (list_all slashless (take n rest)) t (all_front rest n more))
  | inr f ↦ (let k = rw f at h in absurd (omega (arith, k)))
]

-- the first slash stands behind all of the bytes
pub all_slashless : (bytes : List ℕ) (place : ℕ) → place ≡ prefix_len slashless bytes → length bytes ≤ place → list_all slashless bytes ≡ true
all_slashless bytes place e within =
    subst (λ (b : List ℕ). list_all slashless b ≡ true) (take_all (length bytes) bytes (omega arith)) (all_front bytes (length bytes) (omega (arith, e, within)))

-- the byte there is no LF
slash_is_no_feed : (c : ℕ) → slashless c ≡ false → (10 == c) ≡ false
slash_is_no_feed c h = ne_eqb 10 c (λ e. (let off : slashless c ≡ true = ap slashless (sym e) in let both : false ≡ true = sym h ∙ off in cc))

line_is_no_feed : (c : ℕ) → not (is_line_end c) ≡ true → (10 == c) ≡ false
line_is_no_feed c h = ne_eqb 10 c (λ e. (let off : not (is_line_end c) ≡ false = ap (λ b. not (is_line_end b)) (sym e) in let both : false ≡ true = sym off ∙ h in cc))

-- nor is the first byte of the line on which it stands
pub no_feed : (bytes : List ℕ) (start place : ℕ) → start ≤ place → place ≡ prefix_len slashless bytes → place < length bytes → is_line (drop start (take place bytes)) ≡ true → begins_with 10 (drop start bytes) ≡ false
no_feed [] start place within e some line = absurd (omega (arith, some))
no_feed (c ∷ rest) zero zero within e some line = elim (cases_Bool (slashless c)) [
  | inl t ↦ (let k = rw t at e in absurd (omega (arith, k)))
  | inr f ↦ slash_is_no_feed c f
]
no_feed (c ∷ rest) zero (suc place) within e some line = line_is_no_feed c (and_parts (not (is_line_end c)) (is_line (take place rest)) line).0
no_feed (c ∷ rest) (suc start) zero within e some line = absurd (omega (arith, within))
no_feed (c ∷ rest) (suc start) (suc place) within e some line = elim (cases_Bool (slashless c)) [
  | inl t ↦ (let k = rw t at e in no_feed rest start place (omega (arith, within)) (omega (arith, k)) (omega (arith, some)) line)
  | inr f ↦ (let k = rw f at e in absurd (omega (arith, k)))
]

-- the lines that are looked for, from the line of the first slash on
from_slash : (test : List ℕ → Bool) → ((l : List ℕ) → list_all slashless l ≡ true → test l ≡ false) → (bytes : List ℕ) (start place : ℕ) → start ≤ place → place ≡ prefix_len slashless bytes → place < length bytes
    → is_line (drop start (take place bytes)) ≡ true
    → ((back : List ℕ) → begins_with 10 back ≡ false → lines (take start (take place bytes) ++ back) ≡ lines (take start (take place bytes)) ++ lines back)
    → filter test (lines bytes) ≡ filter test (lines (drop start bytes))
from_slash test each bytes start place within e some line cut =
    let front = take start bytes in
    let back = drop start bytes in
    let same : take start (take place bytes) ≡ front = take-take start place bytes within in
    let parted : lines (front ++ back) ≡ lines front ++ lines back =
    subst (λ (f : List ℕ). lines (f ++ back) ≡ lines f ++ lines back) same (cut back (no_feed bytes start place within e some line))
    in
    ap (λ (b : List ℕ). filter test (lines b)) (sym (take-append-drop start bytes)) ∙ passed test each front back (all_front bytes start (omega (arith, within, e))) parted

no_slash : (test : List ℕ → Bool) → ((l : List ℕ) → list_all slashless l ≡ true → test l ≡ false) → (bytes : List ℕ) → length bytes ≡ prefix_len slashless bytes → filter test (lines bytes) ≡ []
no_slash test each bytes e =
    none_of test each (lines bytes) (lines_free bytes (subst (λ (b : List ℕ). list_all slashless b ≡ true) (take-all bytes) (all_front bytes (length bytes) (omega (arith, e)))))
  where
    take-all : (l : List ℕ) → take (length l) l ≡ l
    take-all [] = refl
    take-all (c ∷ rest) = ap (λ k. c ∷ k) (take-all rest)

pub subrs_none : (bytes : List ℕ) (place : ℕ) → place ≡ prefix_len slashless bytes → place ≡ length bytes → filter (is_line_of subrs_line) (lines bytes) ≡ []
subrs_none bytes place e all = no_slash (is_line_of subrs_line) no_subrs bytes (sym all ∙ e)

pub glyphs_none : (bytes : List ℕ) (place : ℕ) → place ≡ prefix_len slashless bytes → place ≡ length bytes → filter (is_line_of glyphs_line) (lines bytes) ≡ []
glyphs_none bytes place e all = no_slash (is_line_of glyphs_line) no_glyphs bytes (sym all ∙ e)

-- the line of the first slash, and those after it
pub next_line : (test : List ℕ → Bool) → ((l : List ℕ) → list_all slashless l ≡ true → test l ≡ false) → (bytes front back line after : List ℕ) (start place : ℕ) → front ≡ take place bytes → back ≡ drop start bytes
    → start ≤ place → place ≡ prefix_len slashless bytes → place < length bytes → is_line (drop start front) ≡ true
    → ((b : List ℕ) → begins_with 10 b ≡ false → lines (take start front ++ b) ≡ lines (take start front) ++ lines b) → lines back ≡ line ∷ lines after
    → filter test (lines bytes) ≡ filter test (line ∷ lines after)
next_line test each bytes front back line after start place f k within e some whole cut first =
    from_slash test each bytes start place within e some (subst (λ (l : List ℕ). is_line (drop start l) ≡ true) f whole)
    (subst (λ (l : List ℕ). (b : List ℕ) → begins_with 10 b ≡ false → lines (take start l ++ b) ≡ lines (take start l) ++ lines b) f cut)
    ∙ ap (λ (b : List ℕ). filter test (lines b)) (sym k) ∙ ap (filter test) first
