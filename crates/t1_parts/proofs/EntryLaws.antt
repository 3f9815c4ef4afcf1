-- Printed entries, read again.
use Rattle.std.proofs.Common.{◌≡◌, ℕ, Bool, true, false, not, ◌+◌, ◌^◌, ◌<◌, ◌≤◌, ◌==◌, nat_le, Some, List, [], ◌∷◌, ◌++◌, Ok, codes, length, drop, suc, map, inl, inr, refl, sym, ◌∙◌, ap, arith, append_assoc}
use Rattle.std.specs.List.{list_all, onto_first, after_first, position_or_len}
use Rattle.std.specs.Fmt.{decimal}
use Rattle.std.proofs.lemmas.Bool.{and_parts, and_from, leb-true, le-leb, ne_eqb, cases_Bool, eqb-true}
use Rattle.t1_parts.specs.declared.item.Item.TheVariants.{Subr, Glyph}
use Rattle.t1_text.specs.Lines.{trimmed}
use Rattle.t1_text.specs.Tokens.{tokens, is_regular}
use Rattle.t1_text.specs.Names.{is_name, is_name_byte, name_of_token}
use Rattle.std.specs.Char.{is_ascii_digit}
use Rattle.t1_parts.specs.Sections.{is_subrs_line, is_glyphs_line}
use Rattle.t1_parts.specs.Entries.{NumberedItem, has_numbered, is_subr, is_glyph, is_word, opened_body, body_of, with_front, subr_entry, glyph_entry}
use Rattle.t1_parts.specs.Private.{item_in_front}
use Rattle.t1_parts.specs.Printing.{word_groups, body_line, last_line}
use Rattle.t1_text.proofs.TokenLaws.{blank_first, other_first, regular_first}
use Rattle.t1_text.proofs.NumberLaws.{decimal_spells, spelled}
use Rattle.t1_parts.proofs.BodyLaws.{printed_body}

-- bytes that go on with a token
abbrev pub are_regular : List ℕ → Bool
are_regular l = list_all is_regular l

-- a token of such bytes, and a blank after it
pub run_before : (c : ℕ) (w rest : List ℕ) → are_regular (c ∷ w) ≡ true → tokens (c ∷ w ++ 32 ∷ rest) ≡ (c ∷ w) ∷ tokens rest
run_before c [] rest h = regular_first c (32 ∷ rest) (and_parts _ _ h).0 ∙ ap (λ t. (c ∷ []) ∷ t) (blank_first 32 rest refl)
run_before c (d ∷ w) rest h =
    let parts = and_parts _ _ h in
    let next : is_regular d ≡ true = (and_parts _ _ parts.1).0 in
    regular_first c (d ∷ w ++ 32 ∷ rest) parts.0 ∙ (rw next (ap (onto_first c) (run_before d w rest parts.1)))

pub token_before : (w rest : List ℕ) → 1 ≤ length w → are_regular w ≡ true → tokens (w ++ 32 ∷ rest) ≡ w ∷ tokens rest
token_before [] rest some h = absurd (omega arith)
token_before (c ∷ w) rest some h = run_before c w rest h

pub digit_regular : (c : ℕ) → is_ascii_digit c ≡ true → is_regular c ≡ true
digit_regular c h =
    let parts = and_parts _ _ h in
    let low = leb-true 48 c parts.0 in
    let high = leb-true c 57 parts.1 in
    rw (
      ne_eqb c 0 (omega arith),
      ne_eqb c 9 (omega arith),
      ne_eqb c 10 (omega arith),
      ne_eqb c 12 (omega arith),
      ne_eqb c 13 (omega arith),
      ne_eqb c 32 (omega arith),
      ne_eqb c 40 (omega arith),
      ne_eqb c 41 (omega arith),
      ne_eqb c 60 (omega arith),
      ne_eqb c 62 (omega arith),
      ne_eqb c 91 (omega arith),
      ne_eqb c 93 (omega arith),
      ne_eqb c 123 (omega arith),
      ne_eqb c 125 (omega arith),
      ne_eqb c 47 (omega arith),
      ne_eqb c 37 (omega arith),
    ) refl

pub digits_regular : (ds : List ℕ) → list_all is_ascii_digit ds ≡ true → are_regular ds ≡ true
digits_regular [] h = refl
digits_regular (d ∷ ds) h = let parts = and_parts _ _ h in and_from _ _ (digit_regular d parts.0) (digits_regular ds parts.1)

pub name_regular : (n : List ℕ) → list_all is_name_byte n ≡ true → are_regular n ≡ true
name_regular [] h = refl
name_regular (c ∷ n) h = let parts = and_parts _ _ h in and_from _ _ (and_parts _ _ (and_parts _ _ parts.0).0).1 (name_regular n parts.1)

-- the tokens of the head of a Subr
pub subr_head : (n : ℕ) → n < 2 ^ 64 → tokens (codes "dup " ++ (decimal n ++ codes " {")) ≡ codes "dup" ∷ decimal n ∷ codes "{" ∷ []
subr_head n h =
    let s = decimal_spells n h in
    token_before (codes "dup") (decimal n ++ codes " {") (omega arith) refl
    ∙ ap (λ t. codes "dup" ∷ t) (token_before (decimal n) (codes "{") s.2 (digits_regular (decimal n) s.0))

-- the tokens of the head of a glyph
pub glyph_head : (g : List ℕ) → is_name g ≡ true → tokens (47 ∷ (g ++ codes " {")) ≡ (47 ∷ g) ∷ codes "{" ∷ []
glyph_head [] h = cc
glyph_head (c ∷ g) h =
    let bytes = name_regular (c ∷ g) (and_parts _ _ h).1 in
    let first : is_regular c ≡ true = (and_parts _ _ bytes).0 in
    other_first 47 (c ∷ g ++ codes " {") refl refl refl ∙ (rw first (ap (onto_first 47) (run_before c g (codes "{") bytes)))

-- bytes before a brace
abbrev pub are_before : List ℕ → Bool
are_before a = list_all (λ c. not (c == 123)) a

after_brace : (a rest : List ℕ) → are_before a ≡ true → after_first (λ c. c == 123) (a ++ 123 ∷ rest) ≡ rest
after_brace [] rest h = refl
after_brace (c ∷ a) rest h =
    let parts = and_parts _ _ h in
    let off : not (c == 123) ≡ true = parts.0 in
    let bytes = a ++ 123 ∷ rest in
    let on : position_or_len (λ c. c == 123) (c ∷ bytes) + 1 ≡ suc (position_or_len (λ c. c == 123) bytes + 1) = rw off (omega arith) in
    ap (λ k. drop k (c ∷ bytes)) on ∙ after_brace a rest parts.1

-- a body that opens at the end of a line
opens_on : (a : List ℕ) (ws : List (List ℕ)) (closing : List ℕ) (ls : List (List ℕ)) → are_before a ≡ true → list_all is_word ws ≡ true → trimmed closing ≡ closing
    → opened_body (a ++ 123 ∷ []) (map body_line (word_groups ws) ++ last_line closing ∷ ls) ≡ Some (record { words = ws; closing = closing; more = 1 + length (word_groups ws) })
opens_on a ws closing ls h words_h closing_h =
    ap (λ l. body_of (l ∷ (map body_line (word_groups ws) ++ last_line closing ∷ ls))) (after_brace a [] h)
    ∙ ap (with_front [] 1) (printed_body ws closing ls words_h closing_h)

digit_before : (ds rest : List ℕ) → list_all is_ascii_digit ds ≡ true → are_before rest ≡ true → are_before (ds ++ rest) ≡ true
digit_before [] rest h k = k
digit_before (d ∷ ds) rest h k =
    let parts = and_parts _ _ h in
    let high = leb-true d 57 (and_parts _ _ parts.0).1 in
    let off : not (d == 123) ≡ true = rw (ne_eqb d 123 (omega arith)) refl in
    and_from _ _ off (digit_before ds rest parts.1 k)

no_brace : (c : ℕ) → is_regular c ≡ true → not (c == 123) ≡ true
no_brace c h =
    elim (cases_Bool (c == 123)) [
      | inl brace ↦ let same : c ≡ 123 = eqb-true c 123 brace in let bad : is_regular 123 ≡ true = ap is_regular (sym same) ∙ h in cc
      | inr other ↦ rw other refl
    ]

regular_before : (n rest : List ℕ) → are_regular n ≡ true → are_before rest ≡ true → are_before (n ++ rest) ≡ true
regular_before [] rest h k = k
regular_before (c ∷ n) rest h k =
    let parts = and_parts _ _ h in
    and_from _ _ (no_brace c parts.0) (regular_before n rest parts.1 k)

-- a Subr that is printed is read as it was, where no earlier one has its number
pub subr_again : (earlier : List NumberedItem) (n : ℕ) (ws : List (List ℕ)) (closing : List ℕ) (ls : List (List ℕ))
    → has_numbered is_glyphs_line earlier ≡ false → has_numbered is_subrs_line earlier ≡ true → has_numbered (is_subr n) earlier ≡ false → n ≤ 32000
    → list_all is_word ws ≡ true → trimmed closing ≡ closing
    → item_in_front earlier (codes "dup " ++ (decimal n ++ codes " {")) (map body_line (word_groups ws) ++ last_line closing ∷ ls) ≡ Ok (Subr n ws closing, 1 + length (word_groups ws))
unfolding item_in_front subr_entry
subr_again earlier n ws closing ls no_glyphs section fresh small words_h closing_h =
    let s = decimal_spells n (omega arith) in
    let head = subr_head n (omega arith) in
    let read = spelled (decimal n) n s in
    let split : codes "dup " ++ (decimal n ++ codes " {") ≡ (codes "dup " ++ (decimal n ++ 32 ∷ [])) ++ 123 ∷ [] = sym (append_assoc (codes "dup ") (decimal n ++ 32 ∷ []) (123 ∷ []) ∙ ap (λ t. codes "dup " ++ t) (append_assoc (decimal n) (32 ∷ []) (123 ∷ []))) in
    let body = ap (λ l. opened_body l (map body_line (word_groups ws) ++ last_line closing ∷ ls)) split ∙ opens_on (codes "dup " ++ (decimal n ++ 32 ∷ [])) ws closing ls (digit_before (decimal n) (32 ∷ []) s.0 refl) words_h closing_h in
    let limit : nat_le n 32000 ≡ true = le-leb n 32000 small in
    rw (no_glyphs, section, head, read, limit, fresh, body) refl

-- a glyph that is printed is read as it was, where no earlier one has its name
pub glyph_again : (earlier : List NumberedItem) (g : List ℕ) (ws : List (List ℕ)) (closing : List ℕ) (ls : List (List ℕ))
    → has_numbered is_glyphs_line earlier ≡ true → has_numbered (is_glyph g) earlier ≡ false → is_name g ≡ true
    → list_all is_word ws ≡ true → trimmed closing ≡ closing
    → item_in_front earlier (47 ∷ (g ++ codes " {")) (map body_line (word_groups ws) ++ last_line closing ∷ ls) ≡ Ok (Glyph g ws closing, 1 + length (word_groups ws))
unfolding item_in_front glyph_entry
glyph_again earlier g ws closing ls section fresh named words_h closing_h =
    let head = glyph_head g named in
    let bytes = name_regular g (and_parts _ _ named).1 in
    let split : 47 ∷ (g ++ codes " {") ≡ (47 ∷ (g ++ 32 ∷ [])) ++ 123 ∷ [] = ap (λ t. 47 ∷ t) (sym (append_assoc g (32 ∷ []) (123 ∷ []))) in
    let body = ap (λ l. opened_body l (map body_line (word_groups ws) ++ last_line closing ∷ ls)) split ∙ opens_on (47 ∷ (g ++ 32 ∷ [])) ws closing ls (regular_before g (32 ∷ []) bytes refl) words_h closing_h in
    let name : name_of_token (47 ∷ g) ≡ Some g = rw named refl in
    rw (section, head, name, fresh, body) refl
