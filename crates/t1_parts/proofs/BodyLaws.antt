-- A printed body, read again.
use Rattle.std.proofs.Common.{◌≡◌, ℕ, true, false, ◌==◌, Some, List, [], ◌∷◌, ◌++◌, length, map, refl, ◌∙◌, ap, inl, inr}
use Rattle.std.specs.List.{onto_first, list_all, list_any, join_with_byte, flat_map}
use Rattle.std.proofs.lemmas.Bool.{and_parts, and_from, not-true, cases_Bool, or_parts}
use Rattle.std.proofs.Math.Numerals.{one-add}
use Rattle.t1_frac.specs.Words.{is_blank, words}
use Rattle.t1_text.specs.Lines.{trimmed}
use Rattle.t1_text.specs.Tokens.{uncommented}
use Rattle.t1_frac.specs.Numbers.{is_number_word}
use Rattle.t1_text.specs.Delimiters.{is_brace, is_safe}
use Rattle.t1_parts.specs.Entries.{has_brace, body_of, with_front, is_word_byte, is_word}
use Rattle.t1_parts.specs.Printing.{body_line, last_line, word_groups}

unblank : (c : ℕ) → is_word_byte c ≡ true → is_blank c ≡ false
unblank c h = not-true _ (and_parts _ _ h).0

-- a word, and a blank after it
word_before : (c : ℕ) (w rest : List ℕ) → list_all is_word_byte (c ∷ w) ≡ true → words (c ∷ w ++ 32 ∷ rest) ≡ (c ∷ w) ∷ words rest
word_before c [] rest h = let on = unblank c (and_parts _ _ h).0 in rw on refl
word_before c (d ∷ w) rest h =
    let parts = and_parts _ _ h in
    let on = unblank c parts.0 in
    let next = unblank d (and_parts _ _ parts.1).0 in
    let more = ap (onto_first c) (word_before d w rest parts.1) in
    rw (on, next) (rw next at more)

-- a word alone
word_alone : (c : ℕ) (w : List ℕ) → list_all is_word_byte (c ∷ w) ≡ true → words (c ∷ w) ≡ (c ∷ w) ∷ []
word_alone c [] h = let on = unblank c (and_parts _ _ h).0 in rw on refl
word_alone c (d ∷ w) h =
    let parts = and_parts _ _ h in
    let on = unblank c parts.0 in
    let next = unblank d (and_parts _ _ parts.1).0 in
    let more = ap (onto_first c) (word_alone d w parts.1) in
    rw (on, next) (rw next at more)

-- the words of joined words
pub words_joined : (ws : List (List ℕ)) → list_all is_word ws ≡ true → words (join_with_byte 32 ws) ≡ ws
words_joined [] h = refl
words_joined ([] ∷ []) h = cc
words_joined ((c ∷ w) ∷ []) h = word_alone c w (and_parts _ _ h).0
words_joined ([] ∷ v ∷ ws) h = cc
words_joined ((c ∷ w) ∷ v ∷ ws) h =
    let parts = and_parts _ _ h in
    word_before c w (join_with_byte 32 (v ∷ ws)) parts.0 ∙ ap (λ t. (c ∷ w) ∷ t) (words_joined (v ∷ ws) parts.1)

-- safe bytes have no comment
pub no_comment : (l : List ℕ) → list_all is_safe l ≡ true → uncommented l ≡ l
no_comment [] h = refl
no_comment (c ∷ l) h =
    let parts = and_parts _ _ h in
    let off = or_parts (is_brace c) (c == 37) (not-true _ parts.0) in
    rw (off.1, one-add) (ap (λ t. c ∷ t) (no_comment l parts.1))

-- and no brace
pub no_brace : (l : List ℕ) → list_all is_safe l ≡ true → list_any is_brace l ≡ false
no_brace [] h = refl
no_brace (c ∷ l) h =
    let parts = and_parts _ _ h in
    let off = or_parts (is_brace c) (c == 37) (not-true _ parts.0) in
    rw off.0 (no_brace l parts.1)

safe_append : (a b : List ℕ) → list_all is_safe a ≡ true → list_all is_safe b ≡ true → list_all is_safe (a ++ b) ≡ true
safe_append [] b ha hb = hb
safe_append (c ∷ a) b ha hb = let parts = and_parts _ _ ha in and_from _ _ parts.0 (safe_append a b parts.1 hb)

safe_word : (w : List ℕ) → list_all is_word_byte w ≡ true → list_all is_safe w ≡ true
safe_word [] h = refl
safe_word (c ∷ w) h = let parts = and_parts _ _ h in and_from _ _ (and_parts _ _ parts.0).1 (safe_word w parts.1)

safe_joined : (ws : List (List ℕ)) → list_all is_word ws ≡ true → list_all is_safe (join_with_byte 32 ws) ≡ true
safe_joined [] h = refl
safe_joined ([] ∷ []) h = cc
safe_joined ((c ∷ w) ∷ []) h = safe_word (c ∷ w) (and_parts _ _ h).0
safe_joined ([] ∷ v ∷ ws) h = cc
safe_joined ((c ∷ w) ∷ v ∷ ws) h =
    let parts = and_parts _ _ h in
    safe_append (c ∷ w) (32 ∷ join_with_byte 32 (v ∷ ws)) (safe_word (c ∷ w) parts.0) (safe_joined (v ∷ ws) parts.1)

-- a printed line of words goes on with its body
line_of_words : (ws : List (List ℕ)) (ls : List (List ℕ)) → list_all is_word ws ≡ true → body_of (body_line ws ∷ ls) ≡ with_front ws 1 (body_of ls)
line_of_words ws ls h =
    let safe = safe_joined ws h in
    let plain : uncommented (body_line ws) ≡ body_line ws = no_comment (body_line ws) safe in
    let open_on : has_brace (body_line ws) ≡ false = ap (list_any is_brace) plain ∙ no_brace (body_line ws) safe in
    let read : words (uncommented (body_line ws)) ≡ ws = ap words plain ∙ words_joined ws h in
    rw (open_on, read) refl

brace_first : (rest : List ℕ) → has_brace (9 ∷ 125 ∷ rest) ≡ true
brace_first rest = rw (one-add, one-add) refl

blank_first : (l : List ℕ) → trimmed (32 ∷ l) ≡ trimmed l
blank_first l = rw one-add refl

-- the line of the brace ends it
line_of_brace : (closing : List ℕ) (ls : List (List ℕ)) → trimmed closing ≡ closing → body_of (last_line closing ∷ ls) ≡ Some (record { words = []; closing = closing; more = 0 })
line_of_brace [] ls h = refl
line_of_brace (c ∷ closing) ls h = rw (brace_first (32 ∷ c ∷ closing), blank_first (c ∷ closing), h) refl

-- all the words of some lines
abbrev pub all_words : List (List (List ℕ)) → List (List ℕ)
all_words gs = flat_map (λ ws. ws) gs

-- a printed body is read again
pub body_again : (gs : List (List (List ℕ))) (closing : List ℕ) (ls : List (List ℕ)) → list_all (list_all is_word) gs ≡ true → trimmed closing ≡ closing
    → body_of (map body_line gs ++ last_line closing ∷ ls) ≡ Some (record { words = all_words gs; closing = closing; more = length gs })
body_again [] closing ls h t = line_of_brace closing ls t
body_again (ws ∷ gs) closing ls h t =
    let parts = and_parts _ _ h in
    line_of_words ws (map body_line gs ++ last_line closing ∷ ls) parts.0 ∙ ap (with_front ws 1) (body_again gs closing ls parts.1 t) ∙ (rw one-add refl)

onto_words : (w : List ℕ) (gs : List (List (List ℕ))) → all_words (onto_first w gs) ≡ w ∷ all_words gs
onto_words w [] = refl
onto_words w (g ∷ gs) = refl

-- the groups of a body's words are its words
pub words_of_groups : (ws : List (List ℕ)) → all_words (word_groups ws) ≡ ws
words_of_groups [] = refl
words_of_groups (w ∷ ws) =
    elim (cases_Bool (is_number_word w)) [
      | inl number ↦ rw number (onto_words w (word_groups ws) ∙ ap (λ t. w ∷ t) (words_of_groups ws))
      | inr other ↦ rw other (ap (λ t. w ∷ t) (words_of_groups ws))
    ]

onto_are_words : (w : List ℕ) (gs : List (List (List ℕ))) → is_word w ≡ true → list_all (list_all is_word) gs ≡ true → list_all (list_all is_word) (onto_first w gs) ≡ true
onto_are_words w [] h hs = and_from _ _ (and_from (is_word w) true h refl) refl
onto_are_words w (g ∷ gs) h hs = let parts = and_parts _ _ hs in and_from _ _ (and_from (is_word w) (list_all is_word g) h parts.0) parts.1

-- the groups of words are of words
groups_are_words : (ws : List (List ℕ)) → list_all is_word ws ≡ true → list_all (list_all is_word) (word_groups ws) ≡ true
groups_are_words [] h = refl
groups_are_words (w ∷ ws) h =
    let parts = and_parts _ _ h in
    let more = groups_are_words ws parts.1 in
    elim (cases_Bool (is_number_word w)) [
      | inl number ↦ rw number (onto_are_words w (word_groups ws) parts.0 more)
      | inr other ↦ rw other (and_from _ _ (and_from (is_word w) true parts.0 refl) more)
    ]

-- the body of some words, printed and read
pub printed_body : (ws : List (List ℕ)) (closing : List ℕ) (ls : List (List ℕ)) → list_all is_word ws ≡ true → trimmed closing ≡ closing
    → body_of (map body_line (word_groups ws) ++ last_line closing ∷ ls) ≡ Some (record { words = ws; closing = closing; more = length (word_groups ws) })
printed_body ws closing ls h t =
    body_again (word_groups ws) closing ls (groups_are_words ws h) t
    ∙ ap (λ v. Some (record { words = v; closing = closing; more = length (word_groups ws) })) (words_of_groups ws)
