-- Lines read back: a line in front of its end, and a token in front of a space.
use Rattle.std.proofs.Common.{◌≡◌, ℕ, suc, true, false, not, ◌==◌, ◌+◌, ◌≤◌, List, [], ◌∷◌, ◌++◌, length, take, drop, refl, sym, ap, ◌∙◌, append-nil, inl, inr, arith}
use Rattle.std.proofs.lemmas.Bool.{and_parts, cases_Bool, eqb-true}
use Rattle.std.proofs.lemmas.List.{take_at, drop_at}
use Rattle.std.proofs.Math.Numerals.{one-add}
use Rattle.std.specs.List.{list_all, prefix_len}
use Rattle.t1_frac.specs.Words.{is_blank}
use Rattle.t1_text.specs.Lines.{is_line, is_line_end}
use Rattle.t1_text.specs.Tokens.{is_bracket, is_regular, places_from}
use Rattle.t1_text.proofs.CutLaws.{longer_len}
use Rattle.t1_text.proofs.EndLaws.{after_stays}
use Rattle.t1_text.proofs.PlaceLaws.{other_place, regular_parts, run_place}
use Rattle.t1_disassemble.specs.Front.{front_line, past_line}

-- ---- a line and its end

front_stays : (c : ℕ) (rest : List ℕ) → not (is_line_end c) ≡ true → front_line (c ∷ rest) ≡ c ∷ front_line rest
front_stays c rest h = ap (λ n. take n (c ∷ rest)) (longer_len c rest h)

pub front_append : (l rest : List ℕ) → is_line l ≡ true → front_line (l ++ rest) ≡ l ++ front_line rest
front_append [] rest h = refl
front_append (c ∷ l) rest h =
    let parts = and_parts (not (is_line_end c)) (is_line l) h in
    front_stays c (l ++ rest) parts.0 ∙ ap (λ f. c ∷ f) (front_append l rest parts.1)

past_append : (l rest : List ℕ) → is_line l ≡ true → past_line (l ++ rest) ≡ past_line rest
past_append [] rest h = refl
past_append (c ∷ l) rest h =
    let parts = and_parts (not (is_line_end c)) (is_line l) h in
    after_stays c (l ++ rest) parts.0 ∙ past_append l rest parts.1

pub line_front : (l rest : List ℕ) → is_line l ≡ true → front_line (l ++ 10 ∷ rest) ≡ l
line_front l rest h = front_append l (10 ∷ rest) h ∙ append-nil l

pub line_past : (l rest : List ℕ) → is_line l ≡ true → past_line (l ++ 10 ∷ rest) ≡ rest
line_past l rest h = past_append l (10 ∷ rest) h

pub lines_parts : (k l : List ℕ) → is_line k ≡ true → is_line l ≡ true → is_line (k ++ l) ≡ true
lines_parts [] l p q = q
lines_parts (c ∷ k) l p q = let parts = and_parts (not (is_line_end c)) (is_line k) p in rw parts.0 (lines_parts k l parts.1 q)

-- ---- a token and the space after it

-- a first byte that begins a token of more bytes, and bytes that go on with it
abbrev pub IsToken : List ℕ → Type 0
IsToken [] = ⊥
IsToken (c ∷ cs) = (is_blank c ≡ false) × ((c == 37) ≡ false) × (is_bracket c ≡ false) × (list_all is_regular cs ≡ true)

pub regular_token : (t : List ℕ) → 1 ≤ length t → list_all is_regular t ≡ true → IsToken t
regular_token [] some h = absurd (omega (arith, some))
regular_token (c ∷ cs) some h =
    let parts = and_parts (is_regular c) (list_all is_regular cs) h in
    let here = regular_parts c parts.0 in
    (here.0, here.2, here.1, parts.1)

regular_front : (cs rest : List ℕ) → list_all is_regular cs ≡ true → prefix_len is_regular (cs ++ 32 ∷ rest) ≡ length cs
regular_front [] rest h = refl
regular_front (c ∷ cs) rest h =
    let parts = and_parts (is_regular c) (list_all is_regular cs) h in
    rw (parts.0, one-add) (ap suc (regular_front cs rest parts.1))

pub token_place : (i : ℕ) (t rest : List ℕ) → IsToken t → places_from i (t ++ 32 ∷ rest) ≡ (i, t) ∷ places_from (i + length t + 1) rest
token_place i [] rest h = absurd h
token_place i (c ∷ cs) rest h =
    let after = cs ++ 32 ∷ rest in
    let k = length cs in
    other_place i c after h.0 h.1 h.2 ∙ run_place i c after
    ∙ ap (λ n. (i, c ∷ take n after) ∷ places_from (i + (1 + n)) (drop n after)) (regular_front cs rest h.3)
    ∙ ap (λ t. (i, c ∷ t) ∷ places_from (i + (1 + k)) (drop k after)) (take_at cs (32 ∷ rest) k refl)
    ∙ ap (λ d. (i, c ∷ cs) ∷ places_from (i + (1 + k)) d) (drop_at cs (32 ∷ rest) k refl)
    ∙ ap (λ n. (i, c ∷ cs) ∷ places_from n rest) (omega arith)

-- a byte that is no blank ends no line
word_stays : (c : ℕ) → is_blank c ≡ false → not (is_line_end c) ≡ true
word_stays c h = elim (cases_Bool (c == 10)) [
  | inl t ↦ (let ended : true ≡ false = sym (ap is_blank (eqb-true c 10 t)) ∙ h in absurd (cc))
  | inr f ↦ elim (cases_Bool (c == 13)) [
    | inl t ↦ (let ended : true ≡ false = sym (ap is_blank (eqb-true c 13 t)) ∙ h in absurd (cc))
    | inr g ↦ rw (f, g) refl
  ]
]

regular_line : (cs : List ℕ) → list_all is_regular cs ≡ true → is_line cs ≡ true
regular_line [] h = refl
regular_line (c ∷ cs) h =
    let parts = and_parts (is_regular c) (list_all is_regular cs) h in
    rw (word_stays c (regular_parts c parts.0).0) (regular_line cs parts.1)

pub token_line : (t : List ℕ) → IsToken t → is_line t ≡ true
token_line [] h = absurd h
token_line (c ∷ cs) h = rw (word_stays c h.0) (regular_line cs h.3)
