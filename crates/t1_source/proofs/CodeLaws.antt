-- Searching the lowest code of a name, and the names that slots give to codes.
use Rattle.std.proofs.Common.{◌≡◌, ℕ, suc, Bool, true, false, ◌+◌, ◌-◌, ◌<◌, ◌≤◌, ◌==◌, ◌≢◌, if◌then◌else◌, Option, Some, None, List, [], ◌∷◌, ◌++◌, length, map, take, get_or, set, filter_map, option_map, refl, inl, inr, sym, ◌∙◌, ap, arith}
use Rattle.std.specs.Prelude.{nat_eq}
use Rattle.std.specs.List.{find, range_with_len, last_or}
use Rattle.std.specs.Map.{lookup}
use Rattle.std.specs.Borrow.{Bor}
use Rattle.std.specs.Str.{bytes_eq}
use Rattle.std.proofs.lemmas.List.{take_more, get_or-set_same, get_or-set_other, append-nil}
use Rattle.std.proofs.lemmas.List.Elements.{filter_map-append}
use Rattle.std.proofs.lemmas.Bool.{eq-eqb, cases_Bool, eqb-true}
use Rattle.t1_text.specs.Tokens.{tokens, is_token}
use Rattle.t1_code.specs.Encoding.{standard_name, standard_names}
use Rattle.t1_code.specs.EncodingRows.{named_in}
use Rattle.t1_parts.specs.Encoding.{slot_of_tokens, slots}
use Rattle.t1_parts.specs.SourceParts.{SourceParts}
use Rattle.t1_parts.specs.Reading.{standard}
use Rattle.t1_source.specs.Codes.{lowest_code, named_by, slot_name, name_at, name_of_code}

find_range : (p : ℕ → Bool) (c n m : ℕ) → n ≡ suc m → find p (range_with_len c n) ≡ (if p c then Some c else find p (range_with_len (c + 1) m))
find_range p c n m e = rw e refl

find_none : (p : ℕ → Bool) (c n : ℕ) → n ≡ 0 → find p (range_with_len c n) ≡ None
find_none p c n e = rw e refl

-- the lowest code, not below this one, that has the name
unfoldable pub lowest_from : (ℕ → Option (List ℕ)) → List ℕ → ℕ → Option ℕ
lowest_from names g c = find (λ code. is_token g (names code)) (range_with_len c (256 - c))

pub lowest_start : (names : ℕ → Option (List ℕ)) (g : List ℕ) → lowest_from names g 0 ≡ lowest_code names g
unfolding lowest_from lowest_code
lowest_start names g = refl

pub lowest_here : (names : ℕ → Option (List ℕ)) (g : List ℕ) (c : ℕ) → c < 256 → is_token g (names c) ≡ true → lowest_from names g c ≡ Some c
unfolding lowest_from
lowest_here names g c h e = find_range (λ code. is_token g (names code)) c (256 - c) (256 - (c + 1)) (omega arith) ∙ (rw e refl)

pub lowest_on : (names : ℕ → Option (List ℕ)) (g : List ℕ) (c : ℕ) → c < 256 → is_token g (names c) ≡ false → lowest_from names g c ≡ lowest_from names g (c + 1)
unfolding lowest_from
lowest_on names g c h e = find_range (λ code. is_token g (names code)) c (256 - c) (256 - (c + 1)) (omega arith) ∙ (rw e refl)

pub lowest_none : (names : ℕ → Option (List ℕ)) (g : List ℕ) (c : ℕ) → 256 ≤ c → lowest_from names g c ≡ None
unfolding lowest_from
lowest_none names g c h = find_none (λ code. is_token g (names code)) c (256 - c) (omega arith)

-- the slots of some lines
abbrev pub slots_on : List (List ℕ) → List (ℕ × List ℕ)
slots_on ls = filter_map (λ l. slot_of_tokens (tokens l)) ls

-- what a further line says
slots_more : (ls : List (List ℕ)) (k : ℕ) (l : List ℕ) → k < length ls → l ≡ get_or ls k l
    → slots_on (take (k + 1) ls) ≡ slots_on (take k ls) ++ filter_map (λ l. slot_of_tokens (tokens l)) (l ∷ [])
slots_more ls k l h is =
    ap slots_on (take_more ls k l h ∙ ap (λ x. take k ls ++ x ∷ []) (sym is)) ∙ filter_map-append (λ l. slot_of_tokens (tokens l)) (take k ls) (l ∷ [])

-- a line that is no slot changes nothing
pub no_slot_more : (g : List ℕ) (ls : List (List ℕ)) (k : ℕ) (l : List ℕ) (code : ℕ) → k < length ls → l ≡ get_or ls k l → slot_of_tokens (tokens l) ≡ None
    → is_token g (slot_name (slots_on (take (k + 1) ls)) code) ≡ is_token g (slot_name (slots_on (take k ls)) code)
no_slot_more g ls k l code h is e =
    ap (λ s. is_token g (slot_name s code)) (slots_more ls k l h is ∙ (rw e (append-nil (slots_on (take k ls)))))

last_append : {X : Type 0} (o : Option X) (xs : List X) (x : X) → last_or o (xs ++ x ∷ []) ≡ Some x
last_append o [] x = refl
last_append o (y ∷ xs) x = last_append (Some y) xs x

slot_here : (slots : List (ℕ × List ℕ)) (code : ℕ) (name : List ℕ) → slot_name (slots ++ (code, name) ∷ []) code ≡ Some name
slot_here slots code name =
    let on : filter_map (named_by code) ((code, name) ∷ []) ≡ name ∷ [] = rw (eq-eqb code code refl) refl in
    let all : filter_map (named_by code) (slots ++ (code, name) ∷ []) ≡ filter_map (named_by code) slots ++ name ∷ [] =
    filter_map-append (named_by code) slots ((code, name) ∷ []) ∙ ap (λ t. filter_map (named_by code) slots ++ t) on in
    ap (last_or None) all ∙ last_append None (filter_map (named_by code) slots) name

slot_elsewhere : (slots : List (ℕ × List ℕ)) (code other : ℕ) (name : List ℕ) → (other == code) ≡ false → slot_name (slots ++ (other, name) ∷ []) code ≡ slot_name slots code
slot_elsewhere slots code other name e =
    let off : filter_map (named_by code) ((other, name) ∷ []) ≡ [] = rw e refl in
    let all : filter_map (named_by code) (slots ++ (other, name) ∷ []) ≡ filter_map (named_by code) slots =
    filter_map-append (named_by code) slots ((other, name) ∷ []) ∙ ap (λ t. filter_map (named_by code) slots ++ t) off ∙ append-nil (filter_map (named_by code) slots) in
    ap (last_or None) all

slot_on : (ls : List (List ℕ)) (k : ℕ) (l : List ℕ) (c : ℕ) (name : List ℕ) → k < length ls → l ≡ get_or ls k l → slot_of_tokens (tokens l) ≡ Some (c, name)
    → slots_on (take (k + 1) ls) ≡ slots_on (take k ls) ++ (c, name) ∷ []
slot_on ls k l c name h is e = slots_more ls k l h is ∙ (rw e refl)

differ : (a b : ℕ) → (a == b) ≡ false → b ≢ a
differ a b h e = let same : (a == b) ≡ true = eq-eqb a b (sym e) in let bad : true ≡ false = sym same ∙ h in cc

-- a slot decides of its code, and of no other
pub slot_more : (g : List ℕ) (ls : List (List ℕ)) (k : ℕ) (l : List ℕ) (c : ℕ) (name : List ℕ) (named : List Bool) → k < length ls → l ≡ get_or ls k l → slot_of_tokens (tokens l) ≡ Some (c, name)
    → c < length named
    → ((code : ℕ) → code < 256 → get_or named code false ≡ is_token g (slot_name (slots_on (take k ls)) code))
    → (code : ℕ) → code < 256 → get_or (set named c (bytes_eq g name)) code false ≡ is_token g (slot_name (slots_on (take (k + 1) ls)) code)
slot_more g ls k l c name named h is e within before code small =
    let on = ap (λ s. is_token g (slot_name s code)) (slot_on ls k l c name h is e) in
    elim (cases_Bool (c == code)) [
      | inl equal ↦
          let at : c ≡ code = eqb-true c code equal in
          ap (λ x. get_or (set named c (bytes_eq g name)) x false) (sym at) ∙ get_or-set_same named c (bytes_eq g name) false within
          ∙ sym (on ∙ ap (λ x. is_token g (slot_name (slots_on (take k ls) ++ (c, name) ∷ []) x)) (sym at) ∙ ap (is_token g) (slot_here (slots_on (take k ls)) c name))
      | inr other ↦
          get_or-set_other named c code (bytes_eq g name) false (differ c code other)
          ∙ before code small
          ∙ sym (on ∙ ap (is_token g) (slot_elsewhere (slots_on (take k ls)) code c name other))
    ]

-- a line that is no slot names nothing
pub no_name_more : (ls : List (List ℕ)) (k : ℕ) (l : List ℕ) (code : ℕ) → k < length ls → l ≡ get_or ls k l → slot_of_tokens (tokens l) ≡ None
    → slot_name (slots_on (take (k + 1) ls)) code ≡ slot_name (slots_on (take k ls)) code
no_name_more ls k l code h is e = ap (λ s. slot_name s code) (slots_more ls k l h is ∙ (rw e (append-nil (slots_on (take k ls)))))

-- a slot names its code, and no other
pub name_more : (ls : List (List ℕ)) (k : ℕ) (l : List ℕ) (c : ℕ) (name : Bor (List ℕ)) (names : List (Option (Bor (List ℕ)))) → k < length ls → l ≡ get_or ls k l
    → slot_of_tokens (tokens l) ≡ Some (c, name.now) → c < length names
    → ((code : ℕ) → code < 256 → name_at names code ≡ slot_name (slots_on (take k ls)) code)
    → (code : ℕ) → code < 256 → name_at (set names c (Some name)) code ≡ slot_name (slots_on (take (k + 1) ls)) code
name_more ls k l c name names h is e within before code small =
    let on : slot_name (slots_on (take (k + 1) ls)) code ≡ slot_name (slots_on (take k ls) ++ (c, name.now) ∷ []) code =
    ap (λ s. slot_name s code) (slot_on ls k l c name.now h is e) in
    elim (cases_Bool (c == code)) [
      | inl equal ↦
          let at : c ≡ code = eqb-true c code equal in
          ap (name_at (set names c (Some name))) (sym at) ∙ ap (option_map (λ n. n.now)) (get_or-set_same names c (Some name) None within)
          ∙ sym (on ∙ ap (slot_name (slots_on (take k ls) ++ (c, name.now) ∷ [])) (sym at) ∙ slot_here (slots_on (take k ls)) c name.now)
      | inr other ↦
          ap (option_map (λ n. n.now)) (get_or-set_other names c code (Some name) None (differ c code other))
          ∙ before code small
          ∙ sym (on ∙ slot_elsewhere (slots_on (take k ls)) code c name.now other)
    ]

-- a table with these rows names as StandardEncoding
pub named_standard : (table : List (ℕ × Bor (List ℕ))) (code : ℕ) → map (λ row. (row.0, row.1.now)) table ≡ standard_names → named_in table code ≡ standard_name code
unfolding standard_name
named_standard table code is = ap (lookup (nat_eq code)) is

-- the names of codes in the standard encoding, and in an array
pub standard_named : (s : SourceParts) (code : ℕ) → standard s ≡ true → standard_name code ≡ name_of_code s code
standard_named s code e = rw e refl

pub array_named : (s : SourceParts) (code : ℕ) → standard s ≡ false → slot_name (slots s.clear) code ≡ name_of_code s code
array_named s code e = rw e refl
