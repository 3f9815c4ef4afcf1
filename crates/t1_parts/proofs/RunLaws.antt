-- A line, with another run of regular bytes in the place of one of its tokens.
use Rattle.std.proofs.Common.{◌≡◌, ℕ, Bool, true, false, ◌==◌, ◌+◌, List, [], ◌∷◌, ◌++◌, length, take, drop, refl, sym, ◌∙◌, ap, inl, inr, arith}
use Rattle.std.specs.List.{list_all, prefix_len}
use Rattle.std.proofs.lemmas.Bool.{and_parts, cases_Bool, both_ways}
use Rattle.std.proofs.lemmas.List.{take-append-drop}
use Rattle.std.proofs.Math.Numerals.{one-add}
use Rattle.t1_frac.specs.Words.{is_blank}
use Rattle.t1_text.specs.Tokens.{is_bracket, is_regular, token_goes_on, onto_place, places_from}
use Rattle.t1_text.proofs.PlaceLaws.{regular_parts, other_place, regular_place, run_place}

-- one or more bytes that go on with a token
abbrev pub is_run : List ℕ → Bool
is_run [] = false
is_run (c ∷ cs) = list_all is_regular (c ∷ cs)

-- a line goes on with a run
run_goes_on : (es rest : List ℕ) → is_run es ≡ true → token_goes_on (es ++ rest) ≡ true
run_goes_on [] rest h = cc
run_goes_on (e ∷ es) rest h = (and_parts (is_regular e) (list_all is_regular es) h).0

bytes_place : (i e : ℕ) (es rest : List ℕ) → list_all is_regular (e ∷ es) ≡ true → token_goes_on rest ≡ false → places_from i (e ∷ es ++ rest) ≡ (i, e ∷ es) ∷ places_from (i + (1 + length es)) rest
bytes_place i e [] rest h stop =
    regular_place i e rest (and_parts (is_regular e) true h).0 ∙ (rw stop (ap (λ k. (i, e ∷ []) ∷ places_from k rest) (omega arith)))
bytes_place i e (d ∷ es) rest h stop =
    let parts = and_parts (is_regular e) (list_all is_regular (d ∷ es)) h in
    let next : is_regular d ≡ true = (and_parts (is_regular d) (list_all is_regular es) parts.1).0 in
    regular_place i e (d ∷ es ++ rest) parts.0
    ∙ (rw next (ap (onto_place i e) (bytes_place (i + 1) d es rest parts.1 stop) ∙ ap (λ k. (i, e ∷ d ∷ es) ∷ places_from k rest) (omega arith)))

-- a run, and what can't go on with it
run_token : (i : ℕ) (es rest : List ℕ) → is_run es ≡ true → token_goes_on rest ≡ false → places_from i (es ++ rest) ≡ (i, es) ∷ places_from (i + length es) rest
run_token i [] rest h stop = cc
run_token i (e ∷ es) rest h stop = bytes_place i e es rest h stop ∙ ap (λ k. (i, e ∷ es) ∷ places_from k rest) (omega arith)

-- what stands around a run on a line whose tokens before it are these
pub record AroundRun (i : ℕ) (l : List ℕ) (ps : List (ℕ × List ℕ)) (p : ℕ) (t : List ℕ) (qs : List (ℕ × List ℕ)) : Type 0 where
  pub before : List ℕ
  pub after : List ℕ
  pub whole : l ≡ before ++ (t ++ after)
  pub place : p ≡ i + length before
  pub later : qs ≡ places_from (p + length t) after
  pub other : (es : List ℕ) → is_run es ≡ true → places_from i (before ++ (es ++ after)) ≡ ps ++ (p, es) ∷ places_from (p + length es) after

stop_here : (rest : List ℕ) → token_goes_on (drop (prefix_len is_regular rest) rest) ≡ false
stop_here [] = refl
stop_here (d ∷ rest) =
    elim (cases_Bool (is_regular d)) [
      | inl on ↦ rw (on, one-add) (stop_here rest)
      | inr off ↦ rw off off
    ]

front_of : (p q : ℕ) (t u : List ℕ) (ts us : List (ℕ × List ℕ)) → (p, t) ∷ ts ≡ (q, u) ∷ us → (p ≡ q) × (t ≡ u) × (ts ≡ us)
front_of p q t u ts us e = let first : ◌≡◌ {A = ℕ × List ℕ} (p, t) (q, u) = cc in (ap (λ x. x.0) first, ap (λ x. x.1) first, cc)

pub none_longer : {A : Type 0} (ps qs : List A) (x : A) → [] ≡ ps ++ x ∷ qs → ⊥
none_longer [] qs x e = cc
none_longer (p ∷ ps) qs x e = cc

-- the first token is the run
around_first : (i c : ℕ) (rest : List ℕ) (p : ℕ) (t : List ℕ) (qs : List (ℕ × List ℕ)) → is_run t ≡ true → is_blank c ≡ false → (c == 37) ≡ false
    → places_from i (c ∷ rest) ≡ (p, t) ∷ qs → AroundRun i (c ∷ rest) [] p t qs
around_first i c rest p t qs h word none e =
    let k = prefix_len is_regular rest in
    elim (cases_Bool (is_bracket c)) [
      | inl bracket ↦
          let same = front_of i p (c ∷ []) t (places_from (i + 1) rest) qs (rw (word, none, bracket) at e) in
          let regular : is_regular c ≡ true = (and_parts (is_regular c) true (ap is_run same.1 ∙ h)).0 in
          absurd (both_ways (is_bracket c) (regular_parts c regular).1 bracket)
      | inr other ↦
          let run : places_from i (c ∷ rest) ≡ (i, c ∷ take k rest) ∷ places_from (i + (1 + k)) (drop k rest) = (rw (word, none, other) (run_place i c rest)) in
          let same = front_of i p (c ∷ take k rest) t (places_from (i + (1 + k)) (drop k rest)) qs (sym run ∙ e) in
          let cut : c ∷ rest ≡ t ++ drop k rest = ap (λ y. c ∷ y) (sym (take-append-drop k rest)) ∙ ap (λ y. y ++ drop k rest) same.1 in
          let again = front_of i p t t (places_from (i + length t) (drop k rest)) qs (sym (run_token i t (drop k rest) h (stop_here rest)) ∙ ap (places_from i) (sym cut) ∙ e) in
          record {
            before = [];
            after = drop k rest;
            whole = cut;
            place = omega (arith, same.0);
            later = sym again.2 ∙ ap (λ j. places_from (j + length t) (drop k rest)) same.0;
            other = λ es regular. run_token i es (drop k rest) regular (stop_here rest) ∙ ap (λ j. (j, es) ∷ places_from (j + length es) (drop k rest)) same.0;
          }
    ]

-- whether a line goes on is the same with another run
same_on : (before es t after : List ℕ) → is_run es ≡ true → is_run t ≡ true → token_goes_on (before ++ (es ++ after)) ≡ token_goes_on (before ++ (t ++ after))
same_on [] es t after h k = run_goes_on es after h ∙ sym (run_goes_on t after k)
same_on (d ∷ before) es t after h k = refl

-- a byte in front
around_longer : (i c : ℕ) (rest : List ℕ) (ps before_ps : List (ℕ × List ℕ)) (p : ℕ) (t : List ℕ) (qs : List (ℕ × List ℕ)) → is_run t ≡ true
    → ((other : List ℕ) (us : List (ℕ × List ℕ)) → token_goes_on other ≡ token_goes_on rest → places_from (i + 1) other ≡ before_ps ++ us → places_from i (c ∷ other) ≡ ps ++ us)
    → AroundRun (i + 1) rest before_ps p t qs → AroundRun i (c ∷ rest) ps p t qs
around_longer i c rest ps before_ps p t qs h step r =
    record {
      before = c ∷ r.before;
      after = r.after;
      whole = ap (λ y. c ∷ y) r.whole;
      place = omega (arith, r.place);
      later = r.later;
      other = λ es regular.
          step (r.before ++ (es ++ r.after)) ((p, es) ∷ places_from (p + length es) r.after)
          (same_on r.before es t r.after regular h ∙ ap token_goes_on (sym r.whole)) (r.other es regular);
    }

-- the places of a token that goes on
onto_parts : (i c : ℕ) (zs : List (ℕ × List ℕ)) (x : ℕ × List ℕ) (xs qs : List (ℕ × List ℕ)) (y : ℕ × List ℕ) → onto_place i c zs ≡ x ∷ (xs ++ y ∷ qs)
    → (z : ℕ × List ℕ) × (zs ≡ z ∷ (xs ++ y ∷ qs)) × (x ≡ (i, c ∷ z.1))
onto_parts i c [] x xs qs y e = absurd (none_longer xs qs y (let rest : [] ≡ xs ++ y ∷ qs = cc in rest))
onto_parts i c (z ∷ zs) x xs qs y e =
    let rest : zs ≡ xs ++ y ∷ qs = cc in
    let first : ◌≡◌ {A = ℕ × List ℕ} (i, c ∷ z.1) x = cc in
    (z, ap (λ us. z ∷ us) rest, sym first)

-- what stands around a run that is a token of a line
pub around_run : (i : ℕ) (l : List ℕ) (ps : List (ℕ × List ℕ)) (p : ℕ) (t : List ℕ) (qs : List (ℕ × List ℕ)) → is_run t ≡ true → places_from i l ≡ ps ++ (p, t) ∷ qs → AroundRun i l ps p t qs
around_run i [] ps p t qs h e = absurd (none_longer ps qs (p, t) e)
around_run i (c ∷ rest) ps p t qs h e =
    elim (cases_Bool (is_blank c)) [
      | inl blank ↦ around_longer i c rest ps ps p t qs h (λ other us on more. rw blank more) (around_run (i + 1) rest ps p t qs h (rw blank at e))
      | inr word ↦ elim (cases_Bool (c == 37)) [
        | inl comment ↦ absurd (none_longer ps qs (p, t) (rw (word, comment) at e))
        | inr none ↦ following i c rest ps p t qs h word none e (λ xs d. around_run (i + 1) rest xs p t qs h d)
      ]
    ]
  where
    bracket_step : (i c : ℕ) (x : ℕ × List ℕ) (xs : List (ℕ × List ℕ)) → is_blank c ≡ false → (c == 37) ≡ false → is_bracket c ≡ true → x ≡ (i, c ∷ [])
        → (other : List ℕ) (us : List (ℕ × List ℕ)) → places_from (i + 1) other ≡ xs ++ us → places_from i (c ∷ other) ≡ x ∷ (xs ++ us)
    bracket_step i c x xs word none bracket is other us more = rw (word, none, bracket) (ap (λ y. y ∷ places_from (i + 1) other) (sym is) ∙ ap (λ ys. x ∷ ys) more)

    apart_step : (i c : ℕ) (rest : List ℕ) (x : ℕ × List ℕ) (xs : List (ℕ × List ℕ)) → is_blank c ≡ false → (c == 37) ≡ false → is_bracket c ≡ false → token_goes_on rest ≡ false → x ≡ (i, c ∷ [])
        → (other : List ℕ) (us : List (ℕ × List ℕ)) → token_goes_on other ≡ token_goes_on rest → places_from (i + 1) other ≡ xs ++ us → places_from i (c ∷ other) ≡ x ∷ (xs ++ us)
    apart_step i c rest x xs word none no_bracket off is other us on more =
        other_place i c other word none no_bracket ∙ (let here : token_goes_on other ≡ false = on ∙ off in rw here (ap (λ y. y ∷ places_from (i + 1) other) (sym is) ∙ ap (λ ys. x ∷ ys) more))

    joined_step : (i c : ℕ) (rest : List ℕ) (x z : ℕ × List ℕ) (xs : List (ℕ × List ℕ)) → is_blank c ≡ false → (c == 37) ≡ false → is_bracket c ≡ false → token_goes_on rest ≡ true → x ≡ (i, c ∷ z.1)
        → (other : List ℕ) (us : List (ℕ × List ℕ)) → token_goes_on other ≡ token_goes_on rest → places_from (i + 1) other ≡ z ∷ (xs ++ us) → places_from i (c ∷ other) ≡ x ∷ (xs ++ us)
    joined_step i c rest x z xs word none no_bracket on_rest is other us on more =
        other_place i c other word none no_bracket ∙ (let here : token_goes_on other ≡ true = on ∙ on_rest in rw here (ap (onto_place i c) more ∙ ap (λ y. y ∷ (xs ++ us)) (sym is)))

    following : (i c : ℕ) (rest : List ℕ) (ps : List (ℕ × List ℕ)) (p : ℕ) (t : List ℕ) (qs : List (ℕ × List ℕ)) → is_run t ≡ true → is_blank c ≡ false → (c == 37) ≡ false
        → places_from i (c ∷ rest) ≡ ps ++ (p, t) ∷ qs → ((xs : List (ℕ × List ℕ)) → places_from (i + 1) rest ≡ xs ++ (p, t) ∷ qs → AroundRun (i + 1) rest xs p t qs) → AroundRun i (c ∷ rest) ps p t qs
    following i c rest [] p t qs h word none e more = around_first i c rest p t qs h word none e
    following i c rest (x ∷ xs) p t qs h word none e more =
        elim (cases_Bool (is_bracket c)) [
          | inl bracket ↦
              let split : (i, c ∷ []) ∷ places_from (i + 1) rest ≡ x ∷ (xs ++ (p, t) ∷ qs) = rw (word, none, bracket) at e in
              let is : ◌≡◌ {A = ℕ × List ℕ} (i, c ∷ []) x = cc in
              let later : places_from (i + 1) rest ≡ xs ++ (p, t) ∷ qs = cc in
              around_longer i c rest (x ∷ xs) xs p t qs h (λ other us on d. bracket_step i c x xs word none bracket (sym is) other us d) (more xs later)
          | inr other ↦ elim (cases_Bool (token_goes_on rest)) [
            | inl on ↦
                let whole : onto_place i c (places_from (i + 1) rest) ≡ x ∷ (xs ++ (p, t) ∷ qs) = rw on at (sym (other_place i c rest word none other) ∙ e) in
                let parts = onto_parts i c (places_from (i + 1) rest) x xs qs (p, t) whole in
                around_longer i c rest (x ∷ xs) (parts.0 ∷ xs) p t qs h (λ l us same d. joined_step i c rest x parts.0 xs word none other on parts.2 l us same d) (more (parts.0 ∷ xs) parts.1)
            | inr off ↦
                let whole : (i, c ∷ []) ∷ places_from (i + 1) rest ≡ x ∷ (xs ++ (p, t) ∷ qs) = rw off at (sym (other_place i c rest word none other) ∙ e) in
                let is : ◌≡◌ {A = ℕ × List ℕ} (i, c ∷ []) x = cc in
                let later : places_from (i + 1) rest ≡ xs ++ (p, t) ∷ qs = cc in
                around_longer i c rest (x ∷ xs) xs p t qs h (λ l us same d. apart_step i c rest x xs word none other off (sym is) l us same d) (more xs later)
          ]
        ]
