-- Lists around an element at a place that was found.
use Rattle.std.proofs.Common.{◌≡◌, ◌⊎◌, ℕ, suc, Bool, true, false, ◌||◌, ◌+◌, ◌-◌, ◌<◌, ◌≤◌, nat_lt, unwrap_or, Option, None, Some, List, [], ◌∷◌, ◌++◌, length, take, drop, set, get_or, reverse, filter_map, refl, sym, ◌∙◌, ap, inl, inr, arith, append_assoc, length-append}
use Rattle.std.specs.List.{list_any, position, position_or_len, insert, remove, cons_option}
use Rattle.std.proofs.lemmas.Bool.{cases_Bool, ltb-true, ltb-false, or_parts, both_ways, or_from}
use Rattle.std.proofs.lemmas.List.{reverse-append, length-reverse}
use Rattle.std.proofs.lemmas.List.Folds.{list_any-append}
use Rattle.std.proofs.Math.Seq.{drop-append_seam, drop-append-add, take-append_seam, set-append_seam, get_or-append_seam}
use Rattle.t1_source.specs.Editing.{through_last}
use Rattle.t1_parts.proofs.RunLaws.{none_longer}
use Rattle.t1_parts.proofs.PartLaws.{place_of}

-- an element that passes a test, and what stands around it
pub record At {X : Type 0} (test : X → Bool) (xs : List X) : Type 0 where
  pub before : List X
  pub here : X
  pub after : List X
  pub whole : xs ≡ before ++ here ∷ after
  pub passes : test here ≡ true

-- the first one
pub record First {X : Type 0} (test : X → Bool) (xs : List X) (at : ℕ) : Type 0 where
  pub found : At test xs
  pub place : at ≡ length found.before
  pub first : list_any test found.before ≡ false

pub first_at : {X : Type 0} (test : X → Bool) (xs : List X) → position_or_len test xs < length xs → First test xs (position_or_len test xs)
first_at test [] h = absurd (omega arith)
first_at test (x ∷ xs) h =
    elim (cases_Bool (test x)) [
      | inl on ↦ record { found = record { before = []; here = x; after = xs; whole = refl; passes = on }; place = rw on refl; first = refl }
      | inr off ↦
          let more : position_or_len test xs < length xs = (let near : 1 + position_or_len test xs < length (x ∷ xs) = rw off at h in omega (arith, near)) in
          let r = first_at test xs more in
          let step : position_or_len test (x ∷ xs) ≡ 1 + position_or_len test xs = rw off refl in
          record {
            found = record { before = x ∷ r.found.before; here = r.found.here; after = r.found.after; whole = ap (λ t. x ∷ t) r.found.whole; passes = r.found.passes };
            place = omega (arith, step, r.place);
            first = or_from (test x) (list_any test r.found.before) off r.first;
          }
    ]

pub position_first : {X : Type 0} (test : X → Bool) (xs : List X) (at : ℕ) → position test xs ≡ Some at → First test xs at
position_first test xs at e =
    elim (cases_Bool (nat_lt (position_or_len test xs) (length xs))) [
      | inl within ↦
          let near : Some (position_or_len test xs) ≡ Some at = rw within at e in
          let same : position_or_len test xs ≡ at = cc in
          rw (← same) (first_at test xs (ltb-true (position_or_len test xs) (length xs) within))
      | inr outside ↦ let none : None ≡ Some at = rw outside at e in cc
    ]

-- where the first one stands, or the length
place_within : {X : Type 0} (test : X → Bool) (xs : List X) → position_or_len test xs ≤ length xs
place_within test [] = omega arith
place_within test (x ∷ xs) =
    elim (cases_Bool (test x)) [
      | inl on ↦ rw on (omega arith)
      | inr off ↦ let more = place_within test xs in rw off (omega (arith, more))
    ]

pub place_or_len : {X : Type 0} (test : X → Bool) (xs : List X) → unwrap_or (position test xs) (length xs) ≡ position_or_len test xs
place_or_len test xs =
    elim (cases_Bool (nat_lt (position_or_len test xs) (length xs))) [
      | inl within ↦ rw within refl
      | inr outside ↦
          let none : unwrap_or (position test xs) (length xs) ≡ length xs = rw outside refl in
          none ∙ ends (place_within test xs) (ltb-false (position_or_len test xs) (length xs) outside)
    ]
  where
    ends : position_or_len test xs ≤ length xs → length xs ≤ position_or_len test xs → length xs ≡ position_or_len test xs
    ends h k = omega (arith, h, k)

-- no element passes a test that finds none
none_passing : {X : Type 0} (test : X → Bool) (xs : List X) → length xs ≤ position_or_len test xs → list_any test xs ≡ false
none_passing test [] h = refl
none_passing test (x ∷ xs) h =
    elim (cases_Bool (test x)) [
      | inl on ↦ let first : length (x ∷ xs) ≤ 0 = rw on at h in absurd (omega (arith, first))
      | inr off ↦ let more : length (x ∷ xs) ≤ 1 + position_or_len test xs = rw off at h in rw off (none_passing test xs (omega (arith, more)))
    ]

pub position_none : {X : Type 0} (test : X → Bool) (xs : List X) → position test xs ≡ None → list_any test xs ≡ false
position_none test xs e =
    elim (cases_Bool (nat_lt (position_or_len test xs) (length xs))) [
      | inl within ↦ let some : Some (position_or_len test xs) ≡ None = rw within at e in cc
      | inr outside ↦ none_passing test xs (ltb-false (position_or_len test xs) (length xs) outside)
    ]

-- some element passes a test
pub passing_first : {X : Type 0} (test : X → Bool) (xs : List X) → list_any test xs ≡ true → First test xs (position_or_len test xs)
passing_first test xs on =
    elim (cases_Bool (nat_lt (position_or_len test xs) (length xs))) [
      | inl within ↦ first_at test xs (ltb-true (position_or_len test xs) (length xs) within)
      | inr outside ↦ absurd (both_ways (list_any test xs) (none_passing test xs (ltb-false (position_or_len test xs) (length xs) outside)) on)
    ]

-- the list with another element there, without it, and its element there
pub set_there : {X : Type 0} (a : List X) (x : X) (b : List X) (at : ℕ) (y : X) → at ≡ length a → set (a ++ x ∷ b) at y ≡ a ++ y ∷ b
set_there a x b at y e = ap (λ k. set (a ++ x ∷ b) k y) e ∙ set-append_seam a x b y

pub removed_there : {X : Type 0} (a : List X) (x : X) (b : List X) (at : ℕ) → at ≡ length a → remove (a ++ x ∷ b) at ≡ a ++ b
removed_there a x b at e =
    let n : suc at ≡ length a + 1 = omega (arith, e) in
    ap (λ k. take k (a ++ x ∷ b) ++ drop (suc at) (a ++ x ∷ b)) e ∙ ap (λ t. t ++ drop (suc at) (a ++ x ∷ b)) (take-append_seam a (x ∷ b))
    ∙ ap (λ k. a ++ drop k (a ++ x ∷ b)) n ∙ ap (λ t. a ++ t) (drop-append-add a (x ∷ b) 1)

pub got_there : {X : Type 0} (a : List X) (x : X) (b : List X) (at : ℕ) (d : X) → at ≡ length a → get_or (a ++ x ∷ b) at d ≡ x
got_there a x b at d e = ap (λ k. get_or (a ++ x ∷ b) k d) e ∙ get_or-append_seam a x b d

-- an element put in
pub insert_there : {X : Type 0} (a b : List X) (at : ℕ) (y : X) → at ≡ length a → insert (a ++ b) at y ≡ a ++ y ∷ b
insert_there a b at y e =
    ap (λ k. take k (a ++ b) ++ y ∷ drop k (a ++ b)) e ∙ ap (λ t. t ++ y ∷ drop (length a) (a ++ b)) (take-append_seam a b) ∙ ap (λ t. a ++ y ∷ t) (drop-append_seam a b)

-- the last element that passes a test
pub record Last {X : Type 0} (test : X → Bool) (xs : List X) : Type 0 where
  pub found : At test xs
  pub none : list_any test found.after ≡ false

pub last_of : {X : Type 0} (test : X → Bool) (xs : List X) → list_any test xs ≡ true → Last test xs
last_of test [] h = cc
last_of test (x ∷ xs) h =
    elim (cases_Bool (list_any test xs)) [
      | inl later ↦
          let r = last_of test xs later in
          record {
            found = record { before = x ∷ r.found.before; here = r.found.here; after = r.found.after; whole = ap (λ t. x ∷ t) r.found.whole; passes = r.found.passes };
            none = r.none;
          }
      | inr none ↦
          record {
            found = record { before = []; here = x; after = xs; whole = refl; passes = passes_first (test x) (list_any test xs) h none };
            none = none;
          }
    ]
  where
    passes_first : (b c : Bool) → (b || c) ≡ true → c ≡ false → b ≡ true
    passes_first true c h k = refl
    passes_first false c h k = cc

any_turned : {X : Type 0} (test : X → Bool) (xs : List X) → list_any test xs ≡ false → list_any test (reverse xs) ≡ false
any_turned test [] h = refl
any_turned test (x ∷ xs) h =
    let parts = or_parts (test x) (list_any test xs) h in
    ap (list_any test) (reverse-append (x ∷ []) xs) ∙ list_any-append test (reverse xs) (x ∷ []) ∙ (let a = any_turned test xs parts.1 in rw (a, parts.0) refl)

pub through_place : {X : Type 0} (test : X → Bool) (a : List X) (x : X) (b : List X) → test x ≡ true → list_any test b ≡ false → through_last test (a ++ x ∷ b) ≡ length (a ++ x ∷ [])
unfolding through_last
through_place test a x b on none =
    let turned : reverse (a ++ x ∷ b) ≡ reverse b ++ x ∷ reverse a =
    reverse-append a (x ∷ b) ∙ ap (λ t. t ++ reverse a) (reverse-append (x ∷ []) b) ∙ append_assoc (reverse b) (x ∷ []) (reverse a) in
    let place : position_or_len test (reverse (a ++ x ∷ b)) ≡ length b = ap (position_or_len test) turned ∙ place_of test (reverse b) x (reverse a) (any_turned test b none) on ∙ length-reverse b in
    omega (arith, place, length-append a (x ∷ b), length-append a (x ∷ []))

-- how many elements stand through the last one that passes a test, by how many stand after it
pub through_found : {X : Type 0} (test : X → Bool) (xs : List X) → length xs - unwrap_or (position test (reverse xs)) (length xs) ≡ through_last test xs
unfolding through_last
through_found test xs =
    ap (λ n. length xs - unwrap_or (position test (reverse xs)) n) (sym (length-reverse xs)) ∙ ap (λ n. length xs - n) (place_or_len test (reverse xs))

-- an element that fails a test, or of which nothing is said, among others
pub any_middle : {X : Type 0} (test : X → Bool) (a : List X) (x : X) (b : List X) → test x ≡ false → list_any test (a ++ x ∷ b) ≡ list_any test (a ++ b)
any_middle test [] x b off = rw off refl
any_middle test (c ∷ a) x b off = ap (λ t. test c || t) (any_middle test a x b off)

pub said_middle : {X Y : Type 0} (say : X → Option Y) (a : List X) (x : X) (b : List X) → say x ≡ None → filter_map say (a ++ x ∷ b) ≡ filter_map say (a ++ b)
said_middle say [] x b off = rw off refl
said_middle say (c ∷ a) x b off = ap (cons_option (say c)) (said_middle say a x b off)

-- an element is the last one, or stands before it
pub last_or_before : {X : Type 0} (xs : List X) (last : X) (a : List X) (x : X) (b : List X) → xs ++ last ∷ [] ≡ a ++ x ∷ b
    → ((b ≡ []) × (last ≡ x) × (xs ≡ a)) ⊎ ((c : List X) × (b ≡ c ++ last ∷ []) × (xs ≡ a ++ x ∷ c))
last_or_before [] last [] x b e =
    let same : last ≡ x = cc in
    let rest : [] ≡ b = cc in
    inl (sym rest, same, refl)
last_or_before [] last (c ∷ a) x b e = absurd (none_longer a b x (let rest : [] ≡ a ++ x ∷ b = cc in rest))
last_or_before (y ∷ xs) last [] x b e =
    let same : y ≡ x = cc in
    let rest : xs ++ last ∷ [] ≡ b = cc in
    inr (xs, sym rest, ap (λ t. t ∷ xs) same)
last_or_before (y ∷ xs) last (c ∷ a) x b e =
    let same : y ≡ c = cc in
    let rest : xs ++ last ∷ [] ≡ a ++ x ∷ b = cc in
    elim (last_or_before xs last a x b rest) [
      | inl r ↦ inl (r.0, r.1, ap (λ t. t ∷ xs) same ∙ ap (λ t. c ∷ t) r.2)
      | inr r ↦ inr (r.0, r.1, ap (λ t. t ∷ xs) same ∙ ap (λ t. c ∷ t) r.2)
    ]

-- an element that isn't the last one stands before it
pub before_last : {X : Type 0} (test : X → Bool) (xs : List X) (last : X) (a : List X) (x : X) (b : List X) → test last ≡ false → test x ≡ true → xs ++ last ∷ [] ≡ a ++ x ∷ b
    → (c : List X) × (b ≡ c ++ last ∷ []) × (xs ≡ a ++ x ∷ c)
before_last test [] last [] x b off on e =
    let same : last ≡ x = cc in
    absurd (both_ways (test last) off (ap test same ∙ on))
before_last test [] last (c ∷ a) x b off on e = absurd (none_longer a b x (let rest : [] ≡ a ++ x ∷ b = cc in rest))
before_last test (y ∷ xs) last [] x b off on e =
    let same : y ≡ x = cc in
    let rest : xs ++ last ∷ [] ≡ b = cc in
    (xs, sym rest, ap (λ t. t ∷ xs) same)
before_last test (y ∷ xs) last (c ∷ a) x b off on e =
    let same : y ≡ c = cc in
    let rest : xs ++ last ∷ [] ≡ a ++ x ∷ b = cc in
    let r = before_last test xs last a x b off on rest in
    (r.0, r.1, ap (λ t. t ∷ xs) same ∙ ap (λ t. c ∷ t) r.2)

-- ---- where none passes a test

none_place : {X : Type 0} (test : X → Bool) (xs : List X) → list_any test xs ≡ false → position_or_len test xs ≡ length xs
none_place test [] h = refl
none_place test (x ∷ xs) h =
    let parts = or_parts (test x) (list_any test xs) h in
    let more = none_place test xs parts.1 in
    let step : position_or_len test (x ∷ xs) ≡ 1 + position_or_len test xs = rw parts.0 refl in
    omega (arith, step, more)

pub none_through : {X : Type 0} (test : X → Bool) (xs : List X) → list_any test xs ≡ false → through_last test xs ≡ 0
unfolding through_last
none_through test xs h =
    let place = none_place test (reverse xs) (any_turned test xs h) ∙ length-reverse xs in
    omega (arith, place)
