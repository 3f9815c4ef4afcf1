-- A section line, with another count in the place of its count.
use Rattle.std.proofs.Common.{◌≡◌, ℕ, Bool, true, false, ◌&&◌, ◌||◌, ◌+◌, Some, is_some, List, [], ◌∷◌, ◌++◌, length, refl, sym, ◌∙◌, ap, inl, inr, arith, append_assoc}
use Rattle.std.specs.Str.{bytes_eq}
use Rattle.std.proofs.lemmas.Bool.{and_parts, and_from, cases_Bool, both_ways}
use Rattle.std.proofs.lemmas.Slice.Eq.{bytes_eq-Decides}
use Rattle.t1_text.specs.Tokens.{tokens, places_from}
use Rattle.t1_text.specs.Names.{is_count}
use Rattle.t1_parts.specs.Sections.{count_between}
use Rattle.t1_text.proofs.NumberLaws.{count_parts}
use Rattle.t1_text.proofs.TokenLaws.{bare, bare_places}
use Rattle.t1_parts.proofs.RunLaws.{is_run, around_run}
use Rattle.t1_parts.proofs.EntryLaws.{digits_regular}

-- a count is a run of regular bytes
count_run : (ds : List ℕ) → is_count ds ≡ true → is_run ds ≡ true
count_run [] h = absurd (omega (arith, (count_parts [] h).0))
count_run (d ∷ ds) h = digits_regular (d ∷ ds) (count_parts (d ∷ ds) h).2

-- where the first key, count and word in a row stand among some tokens
pub record Matched (key word : List ℕ) (ps : List (ℕ × List ℕ)) (m : ℕ × List ℕ) : Type 0 where
  pub front : List (ℕ × List ℕ)
  pub before : ℕ × List ℕ
  pub after : ℕ × List ℕ
  pub back : List (ℕ × List ℕ)
  pub whole : ps ≡ front ++ (before ∷ m ∷ after ∷ back)
  pub is_key : before.1 ≡ key
  pub counted : is_count m.1 ≡ true
  pub other : (n w : ℕ × List ℕ) (us : List (ℕ × List ℕ)) → is_count n.1 ≡ true → w.1 ≡ after.1 → count_between key word (front ++ (before ∷ n ∷ w ∷ us)) ≡ Some n

-- whether three tokens are the key, a count and the word
abbrev pub in_row : List ℕ → List ℕ → List ℕ → List ℕ → List ℕ → Bool
in_row key word a n b = bytes_eq a key && is_count n && bytes_eq b word

step_on : (key word : List ℕ) (a n b : ℕ × List ℕ) (more : List (ℕ × List ℕ)) → in_row key word a.1 n.1 b.1 ≡ false → count_between key word (a ∷ n ∷ b ∷ more) ≡ count_between key word (n ∷ b ∷ more)
step_on key word a n b more off = rw off refl

no_count_between : (x y : Bool) → (x && false && y) ≡ false
no_count_between true y = refl
no_count_between false y = refl

-- what is found after a token at which nothing stands in a row
matched_later : (key word : List ℕ) (a n b : ℕ × List ℕ) (more : List (ℕ × List ℕ)) (m : ℕ × List ℕ) → is_count key ≡ false → in_row key word a.1 n.1 b.1 ≡ false
    → (front : List (ℕ × List ℕ)) (before after : ℕ × List ℕ) (back : List (ℕ × List ℕ)) → n ∷ b ∷ more ≡ front ++ (before ∷ m ∷ after ∷ back) → before.1 ≡ key
    → (x w : ℕ × List ℕ) (us : List (ℕ × List ℕ)) → count_between key word (front ++ (before ∷ x ∷ w ∷ us)) ≡ Some x → count_between key word (a ∷ (front ++ (before ∷ x ∷ w ∷ us))) ≡ Some x
matched_later key word a n b more m plain off [] before after back whole is_key x w us found =
    let none : is_count before.1 ≡ false = ap is_count is_key ∙ plain in
    step_on key word a before x (w ∷ us) (rw none (no_count_between (bytes_eq a.1 key) (bytes_eq x.1 word))) ∙ found
matched_later key word a n b more m plain off (y ∷ []) before after back whole is_key x w us found =
    let first : n ≡ y = cc in
    let second : b ≡ before = cc in
    step_on key word a y before (x ∷ w ∷ us) (ap (λ t. in_row key word a.1 t.1 before.1) (sym first) ∙ ap (λ t. in_row key word a.1 n.1 t.1) (sym second) ∙ off) ∙ found
matched_later key word a n b more m plain off (y ∷ z ∷ front) before after back whole is_key x w us found =
    let first : n ≡ y = cc in
    let second : b ≡ z = cc in
    step_on key word a y z (front ++ (before ∷ x ∷ w ∷ us)) (ap (λ t. in_row key word a.1 t.1 z.1) (sym first) ∙ ap (λ t. in_row key word a.1 n.1 t.1) (sym second) ∙ off) ∙ found

-- what is found stands between a key and a word, and would be found with another count
pub matched : (key word : List ℕ) (ps : List (ℕ × List ℕ)) (m : ℕ × List ℕ) → is_count key ≡ false → count_between key word ps ≡ Some m → Matched key word ps m
matched key word [] m plain e = cc
matched key word (a ∷ []) m plain e = cc
matched key word (a ∷ n ∷ []) m plain e = cc
matched key word (a ∷ n ∷ b ∷ more) m plain e =
    elim (cases_Bool (in_row key word a.1 n.1 b.1)) [
      | inl on ↦
          let outer = and_parts (bytes_eq a.1 key && is_count n.1) (bytes_eq b.1 word) on in
          let parts = and_parts (bytes_eq a.1 key) (is_count n.1) outer.0 in
          let here : Some n ≡ Some m = rw on at e in
          let same : n ≡ m = cc in
          record {
            front = [];
            before = a;
            after = b;
            back = more;
            whole = ap (λ t. a ∷ t ∷ b ∷ more) same;
            is_key = (bytes_eq-Decides a.1 key).0 parts.0;
            counted = ap (λ t. is_count t.1) (sym same) ∙ parts.1;
            other = λ x w us counted is_word.
                (let row : in_row key word a.1 x.1 w.1 ≡ true = and_from (bytes_eq a.1 key && is_count x.1) (bytes_eq w.1 word) (and_from (bytes_eq a.1 key) (is_count x.1) parts.0 counted) (ap (λ t. bytes_eq t word) is_word ∙ outer.1) in
                rw row refl);
          }
      | inr off ↦
          let r = matched key word (n ∷ b ∷ more) m plain (sym (step_on key word a n b more off) ∙ e) in
          record {
            front = a ∷ r.front;
            before = r.before;
            after = r.after;
            back = r.back;
            whole = ap (λ t. a ∷ t) r.whole;
            is_key = r.is_key;
            counted = r.counted;
            other = λ x w us counted is_word.
                matched_later key word a n b more m plain off r.front r.before r.after r.back r.whole r.is_key x w us (r.other x w us counted is_word);
          }
    ]

-- whether a key, a count and a word stand in a row
abbrev pub among : List ℕ → List ℕ → List (List ℕ) → Bool
among key word [] = false
among key word (a ∷ []) = false
among key word (a ∷ n ∷ []) = false
among key word (a ∷ n ∷ b ∷ more) = in_row key word a n b || among key word (n ∷ b ∷ more)

pub found_among : (key word : List ℕ) (ps : List (ℕ × List ℕ)) → is_some (count_between key word ps) ≡ among key word (bare ps)
found_among key word [] = refl
found_among key word (a ∷ []) = refl
found_among key word (a ∷ n ∷ []) = refl
found_among key word (a ∷ n ∷ b ∷ more) =
    elim (cases_Bool (in_row key word a.1 n.1 b.1)) [
      | inl on ↦ rw on refl
      | inr off ↦ rw off (found_among key word (n ∷ b ∷ more))
    ]

pub not_text : (ds text : List ℕ) → is_count ds ≡ true → is_count text ≡ false → bytes_eq ds text ≡ false
not_text ds text h plain =
    elim (cases_Bool (bytes_eq ds text)) [
      | inl same ↦ let both : is_count ds ≡ is_count text = ap is_count ((bytes_eq-Decides ds text).0 same) in absurd (both_ways (is_count ds) (both ∙ plain) h)
      | inr other ↦ other
    ]

-- another count changes nothing of what else stands in a row
pub among_other : (key word : List ℕ) (ts us : List (List ℕ)) (d e : List ℕ) → is_count key ≡ false → is_count word ≡ false → is_count d ≡ true → is_count e ≡ true
    → among key word (ts ++ d ∷ us) ≡ among key word (ts ++ e ∷ us)
among_other key word [] [] d e pk pw hd he = refl
among_other key word [] (b ∷ []) d e pk pw hd he = refl
among_other key word [] (b ∷ c ∷ us) d e pk pw hd he = rw (not_text d key hd pk, not_text e key he pk) refl
among_other key word (x ∷ []) [] d e pk pw hd he = refl
among_other key word (x ∷ []) (b ∷ us) d e pk pw hd he =
    ap (λ o. in_row key word x d b || o) (among_other key word [] (b ∷ us) d e pk pw hd he) ∙ ap (λ o. (bytes_eq x key && o && bytes_eq b word) || among key word (e ∷ b ∷ us)) (hd ∙ sym he)
among_other key word (x ∷ y ∷ []) us d e pk pw hd he =
    ap (λ o. in_row key word x y d || o) (among_other key word (y ∷ []) us d e pk pw hd he) ∙ ap (λ o. ((bytes_eq x key && is_count y) && o) || among key word (y ∷ e ∷ us)) (not_text d word hd pw ∙ sym (not_text e word he pw))
among_other key word (x ∷ y ∷ z ∷ ts) us d e pk pw hd he = ap (λ o. in_row key word x y z || o) (among_other key word (y ∷ z ∷ ts) us d e pk pw hd he)

-- a line around the count that is found between key and word
pub record CountPlace (key word l : List ℕ) (m : ℕ × List ℕ) : Type 0 where
  pub before : List ℕ
  pub after : List ℕ
  pub whole : l ≡ before ++ (m.1 ++ after)
  pub place : m.0 ≡ length before
  pub counted : is_count m.1 ≡ true
  pub other : (es : List ℕ) → is_count es ≡ true → count_between key word (places_from 0 (before ++ (es ++ after))) ≡ Some (m.0, es)
  pub front : List (List ℕ)
  pub tokens : (es : List ℕ) → is_count es ≡ true → tokens (before ++ (es ++ after)) ≡ front ++ es ∷ tokens after

-- a count found by the tokens around it, wherever those after it stand
found_with : (key word : List ℕ) (ps : List (ℕ × List ℕ)) (m n : ℕ × List ℕ) (r : Matched key word ps m) (us : List (ℕ × List ℕ)) → is_count n.1 ≡ true → bare (r.after ∷ r.back) ≡ bare us
    → count_between key word ((r.front ++ r.before ∷ []) ++ n ∷ us) ≡ Some n
found_with key word ps m n r [] counted e = cc
found_with key word ps m n r (w ∷ us) counted e =
    let same : r.after.1 ≡ w.1 = cc in
    ap (count_between key word) (append_assoc r.front (r.before ∷ []) (n ∷ w ∷ us)) ∙ r.other n w us counted (sym same)

bare_append : (ps qs : List (ℕ × List ℕ)) → bare (ps ++ qs) ≡ bare ps ++ bare qs
bare_append [] qs = refl
bare_append (p ∷ ps) qs = ap (λ t. p.1 ∷ t) (bare_append ps qs)

pub count_place_of : (key word l : List ℕ) (m : ℕ × List ℕ) → is_count key ≡ false → count_between key word (places_from 0 l) ≡ Some m → CountPlace key word l m
count_place_of key word l m plain e =
    let r = matched key word (places_from 0 l) m plain e in
    let whole : places_from 0 l ≡ (r.front ++ r.before ∷ []) ++ (m.0, m.1) ∷ (r.after ∷ r.back) = r.whole ∙ sym (append_assoc r.front (r.before ∷ []) (m ∷ r.after ∷ r.back)) in
    let a = around_run 0 l (r.front ++ r.before ∷ []) m.0 m.1 (r.after ∷ r.back) (count_run m.1 r.counted) whole in
    record {
      before = a.before;
      after = a.after;
      whole = a.whole;
      place = omega (arith, a.place);
      counted = r.counted;
      other = λ es counted.
          ap (count_between key word) (a.other es (count_run es counted))
          ∙ found_with key word (places_from 0 l) m (m.0, es) r (places_from (m.0 + length es) a.after) counted
          (ap bare a.later ∙ bare_places (m.0 + length m.1) a.after ∙ sym (bare_places (m.0 + length es) a.after));
      front = bare (r.front ++ r.before ∷ []);
      tokens = λ es counted.
          sym (bare_places 0 (a.before ++ (es ++ a.after)))
          ∙ ap bare (a.other es (count_run es counted))
          ∙ bare_append (r.front ++ r.before ∷ []) ((m.0, es) ∷ places_from (m.0 + length es) a.after)
          ∙ ap (λ t. bare (r.front ++ r.before ∷ []) ++ es ∷ t) (bare_places (m.0 + length es) a.after);
    }
