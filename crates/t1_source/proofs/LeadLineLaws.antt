-- A plain line that says lenIV, with another number in the place of its number.
use Rattle.std.proofs.Common.{◌≡◌, ℕ, Bool, true, false, ◌&&◌, ◌||◌, ◌+◌, ◌^◌, ◌<◌, ◌≤◌, nat_le, if◌then◌else◌, Option, None, Some, is_some, List, [], ◌∷◌, ◌++◌, length, take, drop, codes, refl, sym, ◌∙◌, ap, inl, inr, arith, append_assoc}
use Rattle.std.specs.Fmt.{decimal}
use Rattle.std.specs.List.{list_all, list_any}
use Rattle.std.specs.Str.{bytes_eq}
use Rattle.std.proofs.lemmas.Bool.{and_parts, and_from, cases_Bool, le-leb, or_parts, both_ways}
use Rattle.std.proofs.lemmas.List.{map-append}
use Rattle.std.proofs.lemmas.Slice.Eq.{bytes_eq-Decides}
use Rattle.std.proofs.Math.Seq.{drop-append-add, drop-append_seam, take-append_seam}
use Rattle.t1_parts.specs.declared.item.Item.{Item}
use Rattle.t1_text.specs.Lines.{is_line}
use Rattle.t1_text.specs.Tokens.{tokens, places_from, after_token}
use Rattle.std.specs.Char.{is_ascii_digit}
use Rattle.t1_parts.specs.Sections.{count_between, section_at, subrs_line, glyphs_line, is_subrs_line, is_glyphs_line}
use Rattle.t1_parts.specs.Parts.{is_closefile}
use Rattle.t1_parts.specs.Entries.{opens_subr, opens_glyph}
use Rattle.t1_text.proofs.NumberLaws.{decimal_spells}
use Rattle.t1_parts.proofs.EntryLaws.{digits_regular}
use Rattle.t1_parts.proofs.CloseLaws.{closes_more}
use Rattle.t1_text.proofs.TokenLaws.{bare, bare_places}
use Rattle.t1_parts.proofs.SectionLaws.{in_row, among, found_among}
use Rattle.t1_source.specs.Leads.{place_after, with_token, line_with_lead}
use Rattle.t1_source.specs.WellFormed.{is_inner, opens_entry}
use Rattle.t1_source.proofs.PrintedLaws.{digits_past, digits_line, line_parts, line_append, inner_parts, inner_from, contra}
use Rattle.t1_source.proofs.SectionLineLaws.{line_of, none_of, of_none}
use Rattle.t1_parts.proofs.RunLaws.{is_run, around_run}

abbrev pub key : List ℕ
key = codes "/lenIV"

-- one or more digits
abbrev pub is_digits : List ℕ → Bool
is_digits ds = nat_le 1 (length ds) && list_all is_ascii_digit ds

digits_run : (ds : List ℕ) → is_digits ds ≡ true → is_run ds ≡ true
digits_run [] h = cc
digits_run (d ∷ ds) h = digits_regular (d ∷ ds) (and_parts (nat_le 1 (length (d ∷ ds))) (list_all is_ascii_digit (d ∷ ds)) h).1

-- digits are no text that has other bytes
not_text : (ds text : List ℕ) → is_digits ds ≡ true → is_digits text ≡ false → bytes_eq ds text ≡ false
not_text ds text h plain =
    elim (cases_Bool (bytes_eq ds text)) [
      | inl same ↦ let both : is_digits ds ≡ is_digits text = ap is_digits ((bytes_eq-Decides ds text).0 same) in absurd (both_ways (is_digits ds) (both ∙ plain) h)
      | inr other ↦ other
    ]

-- ---- where the token stands

-- a token after the first key
pub record Found (ps : List (ℕ × List ℕ)) (t : List ℕ) : Type 0 where
  pub front : List (ℕ × List ℕ)
  pub at : ℕ × List ℕ
  pub place : ℕ
  pub back : List (ℕ × List ℕ)
  pub whole : ps ≡ front ++ (at ∷ (place, t) ∷ back)
  pub is_key : at.1 ≡ key
  pub first : list_any (λ u. bytes_eq u key) (bare front) ≡ false
  pub found : place_after key ps ≡ Some (place, t)

found_at : (ps : List (ℕ × List ℕ)) (t : List ℕ) → after_token key (bare ps) ≡ Some (Some t) → Found ps t
found_at [] t e = cc
found_at (u ∷ []) t e =
    elim (cases_Bool (bytes_eq u.1 key)) [
      | inl on ↦ let none : ◌≡◌ {A = Option (Option (List ℕ))} (Some None) (Some (Some t)) = rw on at e in cc
      | inr off ↦ let none : ◌≡◌ {A = Option (Option (List ℕ))} None (Some (Some t)) = rw off at e in cc
    ]
found_at (u ∷ m ∷ ps) t e =
    elim (cases_Bool (bytes_eq u.1 key)) [
      | inl on ↦
          let here : ◌≡◌ {A = Option (Option (List ℕ))} (Some (Some m.1)) (Some (Some t)) = rw on at e in
          let same : m.1 ≡ t = cc in
          let pair : ◌≡◌ {A = ℕ × List ℕ} m (m.0, t) = ap (λ x. (m.0, x)) same in
          record {
            front = [];
            at = u;
            place = m.0;
            back = ps;
            whole = ap (λ x. u ∷ x ∷ ps) pair;
            is_key = (bytes_eq-Decides u.1 key).0 on;
            first = refl;
            found = rw on (ap Some pair);
          }
      | inr off ↦
          let r = found_at (m ∷ ps) t (rw off at e) in
          record {
            front = u ∷ r.front;
            at = r.at;
            place = r.place;
            back = r.back;
            whole = ap (λ xs. u ∷ xs) r.whole;
            is_key = r.is_key;
            first = rw off r.first;
            found = rw off r.found;
          }
    ]

-- a line around the number that it says for lenIV
pub record LeadPlace (l t : List ℕ) : Type 0 where
  pub before : List ℕ
  pub after : List ℕ
  pub whole : l ≡ before ++ (t ++ after)
  pub put : (n : ℕ) → line_with_lead n l ≡ before ++ (decimal n ++ after)
  pub front : List (List ℕ)
  pub first : list_any (λ u. bytes_eq u key) front ≡ false
  pub tokens : (es : List ℕ) → is_digits es ≡ true → tokens (before ++ (es ++ after)) ≡ front ++ (key ∷ es ∷ tokens after)

token_put : (before t after text : List ℕ) (p : ℕ) → p ≡ length before → with_token (before ++ (t ++ after)) text (Some (p, t)) ≡ before ++ (text ++ after)
token_put before t after text p place =
    let front : take p (before ++ (t ++ after)) ≡ before = ap (λ k. take k (before ++ (t ++ after))) place ∙ take-append_seam before (t ++ after) in
    let back : drop (p + length t) (before ++ (t ++ after)) ≡ after =
    ap (λ k. drop (k + length t) (before ++ (t ++ after))) place ∙ drop-append-add before (t ++ after) (length t) ∙ drop-append_seam t after in
    rw (front, back) refl

pub lead_place : (l t : List ℕ) → is_digits t ≡ true → after_token key (tokens l) ≡ Some (Some t) → LeadPlace l t
unfolding line_with_lead
lead_place l t h e =
    let f = found_at (places_from 0 l) t (ap (after_token key) (bare_places 0 l) ∙ e) in
    let whole : places_from 0 l ≡ (f.front ++ f.at ∷ []) ++ (f.place, t) ∷ f.back = f.whole ∙ sym (append_assoc f.front (f.at ∷ []) ((f.place, t) ∷ f.back)) in
    let a = around_run 0 l (f.front ++ f.at ∷ []) f.place t f.back (digits_run t h) whole in
    record {
      before = a.before;
      after = a.after;
      whole = a.whole;
      put = λ n.
          ap (with_token l (decimal n)) f.found
          ∙ ap (λ k. with_token k (decimal n) (Some (f.place, t))) a.whole
          ∙ token_put a.before t a.after (decimal n) f.place (omega (arith, a.place));
      front = bare f.front;
      first = f.first;
      tokens = λ es digits.
          sym (bare_places 0 (a.before ++ (es ++ a.after)))
          ∙ ap bare (a.other es (digits_run es digits))
          ∙ ap bare (append_assoc f.front (f.at ∷ []) ((f.place, es) ∷ places_from (f.place + length es) a.after))
          ∙ map-append (λ u. u.1) f.front (f.at ∷ (f.place, es) ∷ places_from (f.place + length es) a.after)
          ∙ ap (λ k. bare f.front ++ (k ∷ es ∷ bare (places_from (f.place + length es) a.after))) f.is_key
          ∙ ap (λ us. bare f.front ++ (key ∷ es ∷ us)) (bare_places (f.place + length es) a.after);
    }

-- ---- what another number leaves as it was

-- the token after the key is the number
after_lead : (ts us : List (List ℕ)) (d : List ℕ) → list_any (λ u. bytes_eq u key) ts ≡ false → after_token key (ts ++ (key ∷ d ∷ us)) ≡ Some (Some d)
after_lead [] us d none = refl
after_lead (t ∷ ts) us d none =
    let parts = or_parts (bytes_eq t key) (list_any (λ u. bytes_eq u key) ts) none in
    rw parts.0 (after_lead ts us d parts.1)

-- no entry is opened or closed by it
subr_same : (ts us : List (List ℕ)) (d e : List ℕ) → is_digits d ≡ true → is_digits e ≡ true → is_some (opens_subr (ts ++ (key ∷ d ∷ us))) ≡ is_some (opens_subr (ts ++ (key ∷ e ∷ us)))
subr_same [] [] d e hd he = refl
subr_same [] (b ∷ us) d e hd he = refl
subr_same (x ∷ []) us d e hd he =
    ap (λ o. is_some (if bytes_eq x (codes "dup") && o then Some key else None)) (not_text d (codes "{") hd refl ∙ sym (not_text e (codes "{") he refl))
subr_same (x ∷ y ∷ []) us d e hd he = refl
subr_same (x ∷ y ∷ z ∷ ts) us d e hd he = refl

glyph_same : (ts us : List (List ℕ)) (d e : List ℕ) → is_digits d ≡ true → is_digits e ≡ true → is_some (opens_glyph (ts ++ (key ∷ d ∷ us))) ≡ is_some (opens_glyph (ts ++ (key ∷ e ∷ us)))
glyph_same [] us d e hd he =
    ap (λ o. is_some (if o then Some key else None)) (not_text d (codes "{") hd refl ∙ sym (not_text e (codes "{") he refl))
glyph_same (x ∷ []) us d e hd he = refl
glyph_same (x ∷ y ∷ ts) us d e hd he = refl

opens_same : (earlier : List Item) (l m : List ℕ) (ts us : List (List ℕ)) (d e : List ℕ) → is_digits d ≡ true → is_digits e ≡ true
    → tokens l ≡ ts ++ (key ∷ d ∷ us) → tokens m ≡ ts ++ (key ∷ e ∷ us) → opens_entry earlier l ≡ opens_entry earlier m
opens_same earlier l m ts us d e hd he tl tm =
    let glyph : is_some (opens_glyph (tokens l)) ≡ is_some (opens_glyph (tokens m)) =
    ap (λ o. is_some (opens_glyph o)) tl ∙ glyph_same ts us d e hd he ∙ ap (λ o. is_some (opens_glyph o)) (sym tm) in
    let subr : is_some (opens_subr (tokens l)) ≡ is_some (opens_subr (tokens m)) =
    ap (λ o. is_some (opens_subr o)) tl ∙ subr_same ts us d e hd he ∙ ap (λ o. is_some (opens_subr o)) (sym tm) in
    ap (λ b. if list_any is_glyphs_line earlier then b else (list_any is_subrs_line earlier && is_some (opens_subr (tokens l)))) glyph
    ∙ ap (λ b. if list_any is_glyphs_line earlier then is_some (opens_glyph (tokens m)) else (list_any is_subrs_line earlier && b)) subr

-- no section line begins or ends with it
among_same : (first word : List ℕ) (ts us : List (List ℕ)) (d e : List ℕ) → bytes_eq key first ≡ false → is_digits first ≡ false → is_digits d ≡ true → is_digits e ≡ true
    → among first word (ts ++ (key ∷ d ∷ us)) ≡ among first word (ts ++ (key ∷ e ∷ us))
among_same first word [] [] d e off plain hd he = refl
among_same first word [] (b ∷ []) d e off plain hd he = rw off refl
among_same first word [] (b ∷ c ∷ us) d e off plain hd he = rw (off, not_text d first hd plain, not_text e first he plain) refl
among_same first word (x ∷ []) us d e off plain hd he =
    ap (λ o. in_row first word x key d || o) (among_same first word [] us d e off plain hd he)
    ∙ ap (λ o. o || among first word (key ∷ e ∷ us)) (row_off (bytes_eq x first) (bytes_eq d word) ∙ sym (row_off (bytes_eq x first) (bytes_eq e word)))
  where
    row_off : (a b : Bool) → (a && false && b) ≡ false
    row_off true b = refl
    row_off false b = refl
among_same first word (x ∷ y ∷ []) us d e off plain hd he = ap (λ o. in_row first word x y key || o) (among_same first word (y ∷ []) us d e off plain hd he)
among_same first word (x ∷ y ∷ z ∷ ts) us d e off plain hd he = ap (λ o. in_row first word x y z || o) (among_same first word (y ∷ z ∷ ts) us d e off plain hd he)

not_line_same : (first word l m : List ℕ) (ts us : List (List ℕ)) (d e : List ℕ) → bytes_eq key first ≡ false → is_digits first ≡ false → is_digits d ≡ true → is_digits e ≡ true
    → tokens l ≡ ts ++ (key ∷ d ∷ us) → tokens m ≡ ts ++ (key ∷ e ∷ us) → line_of first word l ≡ None → line_of first word m ≡ None
not_line_same first word l m ts us d e off plain hd he tl tm none =
    of_none (section_at m) (count_between first word (places_from 0 m))
    (found_among first word (places_from 0 m) ∙ ap (among first word) (bare_places 0 m ∙ tm) ∙ sym (among_same first word ts us d e off plain hd he) ∙ ap (among first word) (sym (bare_places 0 l ∙ tl))
    ∙ sym (found_among first word (places_from 0 l)) ∙ none_of (section_at l) (count_between first word (places_from 0 l)) none)

digits_parts : (ds : List ℕ) → is_digits ds ≡ true → (1 ≤ length ds) × (list_all is_ascii_digit ds ≡ true)
digits_parts [] h = cc
digits_parts (d ∷ ds) h = (omega arith, (and_parts (nat_le 1 (length (d ∷ ds))) (list_all is_ascii_digit (d ∷ ds)) h).1)

-- a line stays the closefile line, or another one
closes_same : (before after d e : List ℕ) → is_digits d ≡ true → is_closefile (before ++ (d ++ after)) ≡ true → is_closefile (before ++ (e ++ after)) ≡ true
closes_same before after d e hd on =
    let some = digits_parts d hd in
    let back = digits_past d after some.0 some.1 before on in
    let split : (before ++ e) ++ after ≡ before ++ (e ++ after) = append_assoc before e after in
    ap is_closefile (sym split) ∙ closes_more (before ++ e) after back

-- what holds of a plain line with another lenIV
pub record LeadAgain (l m : List ℕ) (n : ℕ) : Type 0 where
  pub said : after_token key (tokens m) ≡ Some (Some (decimal n))
  pub opens : (earlier : List Item) → opens_entry earlier l ≡ opens_entry earlier m
  pub subrs : subrs_line l ≡ None → subrs_line m ≡ None
  pub glyphs : glyphs_line l ≡ None → glyphs_line m ≡ None
  pub line : is_line l ≡ true → is_line m ≡ true
  pub inner : is_inner l ≡ true → is_inner m ≡ true
  pub last : is_closefile l ≡ true → is_closefile m ≡ true

pub decimal_digits : (n : ℕ) → n < 2 ^ 64 → is_digits (decimal n) ≡ true
decimal_digits n h = let s = decimal_spells n h in and_from (nat_le 1 (length (decimal n))) (list_all is_ascii_digit (decimal n)) (le-leb 1 (length (decimal n)) s.2) s.0

-- the lines around digits
again_around : (before after d e : List ℕ) (front : List (List ℕ)) (n : ℕ) → is_digits d ≡ true → is_digits e ≡ true → e ≡ decimal n → list_any (λ u. bytes_eq u key) front ≡ false
    → tokens (before ++ (d ++ after)) ≡ front ++ (key ∷ d ∷ tokens after) → tokens (before ++ (e ++ after)) ≡ front ++ (key ∷ e ∷ tokens after) → LeadAgain (before ++ (d ++ after)) (before ++ (e ++ after)) n
again_around before after d e front n hd he is none tl tm =
    let l = before ++ (d ++ after) in
    let m = before ++ (e ++ after) in
    let us = tokens after in
    let line : is_line l ≡ true → is_line m ≡ true = λ h.
    (let outer = line_parts before (d ++ after) h in
    let rest = line_parts d after outer.1 in
    line_append before (e ++ after) outer.0 (line_append e after (digits_line e (digits_parts e he).1) rest.1)) in
    record {
      said = ap (after_token key) tm ∙ after_lead front us e none ∙ ap (λ x. Some (Some x)) is;
      opens = λ earlier. opens_same earlier l m front us d e hd he tl tm;
      subrs = not_line_same (codes "/Subrs") (codes "array") l m front us d e refl refl hd he tl tm;
      glyphs = not_line_same (codes "/CharStrings") (codes "dict") l m front us d e refl refl hd he tl tm;
      line = line;
      inner = λ h.
          (let parts = inner_parts l h in
          inner_from m (line parts.0) (contra (is_closefile l) (is_closefile m) (λ on. closes_same before after e d he on) parts.1));
      last = λ on. closes_same before after d e hd on;
    }

pub lead_again : (l t : List ℕ) (n : ℕ) → n < 2 ^ 64 → is_digits t ≡ true → after_token key (tokens l) ≡ Some (Some t) → LeadAgain l (line_with_lead n l) n
lead_again l t n small h e =
    let p = lead_place l t h e in
    let digits = decimal_digits n small in
    let a = again_around p.before p.after t (decimal n) p.front n h digits refl p.first (p.tokens t h) (p.tokens (decimal n) digits) in
    same_again (p.before ++ (t ++ p.after)) l (p.before ++ (decimal n ++ p.after)) (line_with_lead n l) n (sym p.whole) (sym (p.put n)) a
  where
    same_again : (k l m o : List ℕ) (n : ℕ) → k ≡ l → m ≡ o → LeadAgain k m n → LeadAgain l o n
    same_again k l m o n p q a = rw (← p, ← q) a
