-- A body that was read: its words and its closing text.
use Rattle.std.proofs.Common.{◌≡◌, ℕ, zero, suc, Bool, true, false, not, ◌||◌, ◌==◌, ◌+◌, Option, None, Some, List, [], ◌∷◌, ◌++◌, length, take, drop, reverse, refl, sym, ◌∙◌, ap, inl, inr, arith, append_assoc, length-drop}
use Rattle.std.specs.List.{list_all, onto_first, prefix_len, position_or_len, before_first, after_first, ends_with}
use Rattle.std.proofs.lemmas.Bool.{and_parts, and_from, cases_Bool, or_parts, eqb-true}
use Rattle.std.proofs.lemmas.List.{reverse-reverse, take-append-drop}
use Rattle.std.proofs.lemmas.List.Folds.{list_all-append}
use Rattle.std.proofs.Math.Numerals.{one-add}
use Rattle.t1_frac.specs.Words.{is_blank, trimmed_front, word_goes_on, words}
use Rattle.t1_parts.specs.declared.body.EntryBody.{EntryBody}
use Rattle.t1_text.specs.Lines.{is_line, is_line_end, trimmed}
use Rattle.t1_text.specs.Tokens.{uncommented}
use Rattle.t1_text.specs.Delimiters.{is_brace, is_safe}
use Rattle.t1_parts.specs.Entries.{is_word_byte, is_word, has_brace, closes, with_front, body_of, opened_body}
use Rattle.t1_parts.specs.Parts.{is_closefile}
use Rattle.t1_parts.specs.Printing.{last_line}
use Rattle.t1_source.specs.WellFormed.{is_inner, IsEntry}
use Rattle.t1_parts.proofs.CloseLaws.{closing_bytes, closes_more, closes_past, closes_blank, all_reverse, halves}
use Rattle.t1_source.proofs.PrintedLaws.{contra, inner_parts, inner_from, is_word_bytes, line_parts}

-- bytes of a part of a line
pub all_take : {X : Type 0} (test : X → Bool) (k : ℕ) (l : List X) → list_all test l ≡ true → list_all test (take k l) ≡ true
all_take test zero l h = refl
all_take test (suc k) [] h = refl
all_take test (suc k) (c ∷ l) h = let parts = and_parts (test c) (list_all test l) h in and_from (test c) (list_all test (take k l)) parts.0 (all_take test k l parts.1)

pub all_drop : {X : Type 0} (test : X → Bool) (k : ℕ) (l : List X) → list_all test l ≡ true → list_all test (drop k l) ≡ true
all_drop test zero l h = h
all_drop test (suc k) [] h = refl
all_drop test (suc k) (c ∷ l) h = all_drop test k l (and_parts (test c) (list_all test l) h).1

pub trimmed_all : (test : ℕ → Bool) (l : List ℕ) → list_all test l ≡ true → list_all test (trimmed l) ≡ true
trimmed_all test l h =
    let front = all_drop test (prefix_len is_blank l) l h in
    let turned = all_reverse test (trimmed_front l) front in
    let back = all_drop test (prefix_len is_blank (reverse (trimmed_front l))) (reverse (trimmed_front l)) turned in
    all_reverse test (trimmed_front (reverse (trimmed_front l))) back

front_again : (l : List ℕ) → trimmed_front (trimmed_front l) ≡ trimmed_front l
front_again [] = refl
front_again (c ∷ l) =
    elim (cases_Bool (is_blank c)) [
      | inl blank ↦ rw (blank, one-add) (front_again l)
      | inr word ↦ let same : trimmed_front (c ∷ l) ≡ c ∷ l = rw word refl in ap trimmed_front same
    ]

-- what is cut off at the end leaves the front trimmed
front_of_more : (x y : List ℕ) → trimmed_front (x ++ y) ≡ x ++ y → trimmed_front x ≡ x
front_of_more [] y h = refl
front_of_more (c ∷ x) y h =
    elim (cases_Bool (is_blank c)) [
      | inl blank ↦
          let shorter : trimmed_front (x ++ y) ≡ c ∷ (x ++ y) = rw (blank, one-add) at h in
          absurd (omega (arith, ap length shorter, length-drop (prefix_len is_blank (x ++ y)) (x ++ y)))
      | inr word ↦ rw word refl
    ]

-- what is trimmed is so
pub trimmed_again : (l : List ℕ) → trimmed (trimmed l) ≡ trimmed l
trimmed_again l =
    let front = trimmed_front l in
    let back = trimmed_front (reverse front) in
    let whole = sym (reverse-reverse front) ∙ halves (reverse front) in
    let begun : trimmed_front (reverse back) ≡ reverse back = front_of_more (reverse back) _ (ap trimmed_front (sym whole) ∙ front_again l ∙ whole) in
    ap (λ t. reverse (trimmed_front (reverse t))) begun ∙ ap (λ t. reverse (trimmed_front t)) (reverse-reverse back) ∙ ap reverse (front_again (reverse front))

onto_word : (c : ℕ) (ws : List (List ℕ)) → is_word_byte c ≡ true → list_all is_word ws ≡ true → list_all is_word (onto_first c ws) ≡ true
onto_word c [] h hs = and_from (is_word (c ∷ [])) true (and_from (is_word_byte c) true h refl) refl
onto_word c (w ∷ ws) h hs =
    let parts = and_parts (is_word w) (list_all is_word ws) hs in
    and_from (is_word (c ∷ w)) (list_all is_word ws) (and_from (is_word_byte c) (list_all is_word_byte w) h (is_word_bytes w parts.0)) parts.1

-- the words of safe bytes are words
pub words_are_words : (l : List ℕ) → list_all is_safe l ≡ true → list_all is_word (words l) ≡ true
words_are_words [] h = refl
words_are_words (c ∷ l) h =
    let parts = and_parts (is_safe c) (list_all is_safe l) h in
    let more = words_are_words l parts.1 in
    elim (cases_Bool (is_blank c)) [
      | inl blank ↦ rw blank more
      | inr other ↦
          let byte : is_word_byte c ≡ true = and_from (not (is_blank c)) (is_safe c) (rw other refl) parts.0 in
          elim (cases_Bool (word_goes_on l)) [
            | inl on ↦ rw (other, on) (onto_word c (words l) byte more)
            | inr off ↦ rw (other, off) (and_from (is_word (c ∷ [])) (list_all is_word (words l)) (and_from (is_word_byte c) true byte refl) more)
          ]
    ]

onto_bytes : (test : ℕ → Bool) (c : ℕ) (ws : List (List ℕ)) → test c ≡ true → list_all (list_all test) ws ≡ true → list_all (list_all test) (onto_first c ws) ≡ true
onto_bytes test c [] h hs = and_from (list_all test (c ∷ [])) true (and_from (test c) true h refl) refl
onto_bytes test c (w ∷ ws) h hs =
    let parts = and_parts (list_all test w) (list_all (list_all test) ws) hs in
    and_from (list_all test (c ∷ w)) (list_all (list_all test) ws) (and_from (test c) (list_all test w) h parts.0) parts.1

-- the bytes of words
pub words_bytes : (test : ℕ → Bool) (l : List ℕ) → list_all test l ≡ true → list_all (list_all test) (words l) ≡ true
words_bytes test [] h = refl
words_bytes test (c ∷ l) h =
    let parts = and_parts (test c) (list_all test l) h in
    let more = words_bytes test l parts.1 in
    elim (cases_Bool (is_blank c)) [
      | inl blank ↦ rw blank more
      | inr other ↦ elim (cases_Bool (word_goes_on l)) [
        | inl on ↦ rw (other, on) (onto_bytes test c (words l) parts.0 more)
        | inr off ↦ rw (other, off) (and_from (list_all test (c ∷ [])) (list_all (list_all test) (words l)) (and_from (test c) true parts.0 refl) more)
      ]
    ]

-- a line without braces, without its comment
pub open_safe : (l : List ℕ) → has_brace l ≡ false → list_all is_safe (uncommented l) ≡ true
open_safe [] h = refl
open_safe (c ∷ l) h =
    elim (cases_Bool (c == 37)) [
      | inl comment ↦ rw comment refl
      | inr other ↦
          let whole : (is_brace c || has_brace l) ≡ false = rw (other, one-add) at h in
          let parts = or_parts (is_brace c) (has_brace l) whole in
          rw (other, one-add) (and_from (is_safe c) (list_all is_safe (uncommented l)) (rw (parts.0, other) refl) (open_safe l parts.1))
    ]

-- what stands before a brace
closed_safe : (l : List ℕ) → has_brace l ≡ true → list_all is_safe (before_first is_brace l) ≡ true
closed_safe [] h = refl
closed_safe (c ∷ l) h =
    elim (cases_Bool (is_brace c)) [
      | inl brace ↦ rw brace refl
      | inr other ↦ elim (cases_Bool (c == 37)) [
        | inl comment ↦ let none : false ≡ true = rw comment at h in cc
        | inr plain ↦
            let more : has_brace l ≡ true = (let whole : (is_brace c || has_brace l) ≡ true = rw (plain, one-add) at h in rw other at whole) in
            rw (other, one-add) (and_from (is_safe c) (list_all is_safe (before_first is_brace l)) (rw (other, plain) refl) (closed_safe l more))
      ]
    ]

-- a line around its first brace
closed_split : (l : List ℕ) → closes l ≡ true → l ≡ before_first is_brace l ++ 125 ∷ after_first is_brace l
closed_split [] h = cc
closed_split (c ∷ l) h =
    elim (cases_Bool (is_brace c)) [
      | inl brace ↦
          let here : (c == 125) ≡ true = rw brace at h in
          rw brace (ap (λ b. b ∷ l) (eqb-true c 125 here))
      | inr other ↦
          let more : closes l ≡ true = rw (other, one-add) at h in
          let step : position_or_len is_brace (c ∷ l) ≡ suc (position_or_len is_brace l) = rw (other, one-add) refl in
          let next : position_or_len is_brace (c ∷ l) + 1 ≡ suc (position_or_len is_brace l + 1) = omega (arith, step) in
          ap (λ t. c ∷ t) (closed_split l more) ∙ sym (ap (λ k. take k (c ∷ l) ++ 125 ∷ after_first is_brace (c ∷ l)) step ∙ ap (λ k. take (suc (position_or_len is_brace l)) (c ∷ l) ++ 125 ∷ drop k (c ∷ l)) next)
    ]

-- a closing text, whose line isn't the closefile line
closing_open : (closing : List ℕ) → is_line closing ≡ true → is_closefile closing ≡ false → is_inner (last_line closing) ≡ true
closing_open [] p q = refl
closing_open (c ∷ closing) p q =
    let line = 9 ∷ 125 ∷ 32 ∷ c ∷ closing in
    inner_from line p (contra (is_closefile (c ∷ closing)) (is_closefile line) (λ on. sym (closes_blank 32 (c ∷ closing) refl) ∙ closes_past (9 ∷ []) 125 (32 ∷ c ∷ closing) refl refl on) q)

pub closing_well_formed : (l x r : List ℕ) → l ≡ x ++ 125 ∷ r → is_inner l ≡ true → is_inner (last_line (trimmed r)) ≡ true
closing_well_formed l x r split h =
    let parts = inner_parts l h in
    let line : is_line r ≡ true = (line_parts x (125 ∷ r) (ap is_line (sym split) ∙ parts.0)).1 in
    let past : is_closefile r ≡ false = contra (is_closefile l) (is_closefile r) (λ on. ap is_closefile (split ∙ sym (append_assoc x (125 ∷ []) r)) ∙ closes_more (x ++ 125 ∷ []) r on) parts.1 in
    closing_open (trimmed r) (trimmed_all (λ c. not (is_line_end c)) r line) (ap (λ t. ends_with (λ a b. a == b) t closing_bytes) (trimmed_again r) ∙ past)

-- a body after a line
fronted : (ws : List (List ℕ)) (n : ℕ) (o : Option EntryBody) (b : EntryBody) → with_front ws n o ≡ Some b → (c : EntryBody) × (o ≡ Some c) × (b.words ≡ ws ++ c.words) × (b.closing ≡ c.closing)
fronted ws n None b e = cc
fronted ws n (Some c) b e =
    let same : record { words = ws ++ c.words; closing = c.closing; more = n + c.more } ≡ b = cc in
    (c, refl, sym (ap (λ x. x.words) same), sym (ap (λ x. x.closing) same))

entry_more : (ws vs us : List (List ℕ)) (closing same : List ℕ) → us ≡ ws ++ vs → closing ≡ same → list_all is_word ws ≡ true → list_all is_line ws ≡ true → IsEntry vs same → IsEntry us closing
entry_more ws vs us closing same whole is words lines h =
    rw (whole, is) (
      list_all-append is_word ws vs ∙ and_from (list_all is_word ws) (list_all is_word vs) words h.0,
      list_all-append is_line ws vs ∙ and_from (list_all is_line ws) (list_all is_line vs) lines h.1,
      h.2,
      h.3,
    )

-- the words and the closing text of a body
pub body_entry : (ls : List (List ℕ)) (b : EntryBody) → list_all is_inner ls ≡ true → body_of ls ≡ Some b → IsEntry b.words b.closing
body_entry [] b h e = cc
body_entry (l ∷ ls) b h e =
    let parts = and_parts (is_inner l) (list_all is_inner ls) h in
    let line = (inner_parts l parts.0).0 in
    elim (cases_Bool (has_brace l)) [
      | inl brace ↦ elim (cases_Bool (closes l)) [
        | inl ends ↦
            let front = before_first is_brace l in
            let rest = after_first is_brace l in
            let here : Some (record { words = words front; closing = trimmed rest; more = 0 }) ≡ Some b = rw (brace, ends) at e in
            let same : record { words = words front; closing = trimmed rest; more = 0 } ≡ b = cc in
            rw (← same) (
              words_are_words front (closed_safe l brace),
              words_bytes (λ c. not (is_line_end c)) front (all_take (λ c. not (is_line_end c)) (position_or_len is_brace l) l line),
              trimmed_again rest,
              closing_well_formed l front rest (closed_split l ends) parts.0,
            )
        | inr opens ↦ let none : None ≡ Some b = rw (brace, opens) at e in cc
      ]
      | inr plain ↦
          let ws = words (uncommented l) in
          let r = fronted ws 1 (body_of ls) b (rw plain at e) in
          let more = body_entry ls r.0 parts.1 r.1 in
          let bytes = words_bytes (λ c. not (is_line_end c)) (uncommented l) (all_take (λ c. not (is_line_end c)) (position_or_len (λ c. c == 37) l) l line) in
          entry_more ws r.0.words b.words b.closing r.0.closing r.2 r.3 (words_are_words (uncommented l) (open_safe l plain)) bytes more
    ]

-- a part of a line before the closefile line is such a line
pub inner_drop : (k : ℕ) (l : List ℕ) → is_inner l ≡ true → is_inner (drop k l) ≡ true
inner_drop k l h =
    let parts = inner_parts l h in
    inner_from (drop k l) (all_drop (λ c. not (is_line_end c)) k l parts.0)
    (contra (is_closefile l) (is_closefile (drop k l)) (λ on. ap is_closefile (sym (take-append-drop k l)) ∙ closes_more (take k l) (drop k l) on) parts.1)

-- the body of an entry
pub opened_entry : (l : List ℕ) (ls : List (List ℕ)) (b : EntryBody) → is_inner l ≡ true → list_all is_inner ls ≡ true → opened_body l ls ≡ Some b → IsEntry b.words b.closing
opened_entry l ls b h k e =
    let first = after_first (λ c. c == 123) l in
    body_entry (first ∷ ls) b (and_from (is_inner first) (list_all is_inner ls) (inner_drop (position_or_len (λ c. c == 123) l + 1) l h) k) e
