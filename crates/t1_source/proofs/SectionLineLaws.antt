-- Section lines that stay so with another count.
use Rattle.std.proofs.Common.{◌≡◌, ℕ, Bool, true, false, ◌&&◌, ◌+◌, if◌then◌else◌, Option, None, Some, option_map, is_some, List, [], ◌∷◌, ◌++◌, length, take, drop, codes, refl, sym, ◌∙◌, ap, inl, inr}
use Rattle.std.specs.List.{list_any}
use Rattle.std.specs.Str.{bytes_eq}
use Rattle.std.proofs.Math.Seq.{drop-append-add, drop-append_seam, take-append_seam}
use Rattle.t1_parts.specs.declared.item.Item.{Item}
use Rattle.t1_parts.specs.declared.item.Item.TheVariants.{Section}
use Rattle.t1_text.specs.Tokens.{tokens, places_from}
use Rattle.t1_frac.specs.Numbers.{decimal_value}
use Rattle.t1_text.specs.Names.{is_count}
use Rattle.t1_parts.specs.Sections.{count_between, section_at, subrs_line, glyphs_line, is_subrs_line, is_glyphs_line}
use Rattle.t1_parts.specs.Entries.{opens_subr}
use Rattle.t1_source.specs.WellFormed.{opens_entry, IsSectionLine}
use Rattle.t1_text.proofs.TokenLaws.{bare_places}
use Rattle.t1_parts.proofs.SectionLaws.{among, found_among, among_other, not_text, count_place_of}

-- the section line whose count stands between key and word
abbrev pub line_of : List ℕ → List ℕ → List ℕ → Option Item
line_of key word l = option_map (section_at l) (count_between key word (places_from 0 l))

section_there : (before es after : List ℕ) (p : ℕ) → p ≡ length before → section_at (before ++ (es ++ after)) (p, es) ≡ Section before (decimal_value es) after
section_there before es after p place =
    let front : take p (before ++ (es ++ after)) ≡ before = ap (λ k. take k (before ++ (es ++ after))) place ∙ take-append_seam before (es ++ after) in
    let back : drop (p + length es) (before ++ (es ++ after)) ≡ after =
    ap (λ k. drop (k + length es) (before ++ (es ++ after))) place ∙ drop-append-add before (es ++ after) (length es) ∙ drop-append_seam es after in
    rw (front, back) refl

-- a section line around its count
pub record SectionPlace (key word l before after : List ℕ) : Type 0 where
  pub count : List ℕ
  pub whole : l ≡ before ++ (count ++ after)
  pub counted : is_count count ≡ true
  pub other : (es : List ℕ) → is_count es ≡ true → line_of key word (before ++ (es ++ after)) ≡ Some (Section before (decimal_value es) after)
  pub front : List (List ℕ)
  pub tokens : (es : List ℕ) → is_count es ≡ true → tokens (before ++ (es ++ after)) ≡ front ++ es ∷ tokens after

found_place : (key word l before after : List ℕ) (n : ℕ) (o : Option (ℕ × List ℕ)) → is_count key ≡ false → count_between key word (places_from 0 l) ≡ o → option_map (section_at l) o ≡ Some (Section before n after)
    → SectionPlace key word l before after
found_place key word l before after n None plain found e = cc
found_place key word l before after n (Some m) plain found e =
    let r = count_place_of key word l m plain found in
    let here : section_at l m ≡ Section before n after = cc in
    let there : section_at l m ≡ Section r.before (decimal_value m.1) r.after = ap (λ t. section_at t m) r.whole ∙ section_there r.before m.1 r.after m.0 r.place in
    let same : Section r.before (decimal_value m.1) r.after ≡ Section before n after = sym there ∙ here in
    let front : before ≡ r.before = cc in
    let back : after ≡ r.after = cc in
    record {
      count = m.1;
      whole = rw (front, back) r.whole;
      counted = r.counted;
      other = λ es counted.
          rw (front, back) (ap (option_map (section_at (r.before ++ (es ++ r.after)))) (r.other es counted) ∙ ap Some (section_there r.before es r.after m.0 r.place));
      front = r.front;
      tokens = λ es counted. rw (front, back) (r.tokens es counted);
    }

pub section_place : (key word l before after : List ℕ) (n : ℕ) → is_count key ≡ false → line_of key word l ≡ Some (Section before n after) → SectionPlace key word l before after
section_place key word l before after n plain e = found_place key word l before after n (count_between key word (places_from 0 l)) plain refl e

pub none_of : {A B : Type 0} (f : A → B) (o : Option A) → option_map f o ≡ None → is_some o ≡ false
none_of f None e = refl
none_of f (Some a) e = cc

pub of_none : {A B : Type 0} (f : A → B) (o : Option A) → is_some o ≡ false → option_map f o ≡ None
of_none f None e = refl
of_none f (Some a) e = cc

-- a line that isn't a section line, with another count
not_line_other : (key word l m : List ℕ) (ts us : List (List ℕ)) (d e : List ℕ) → is_count key ≡ false → is_count word ≡ false → is_count d ≡ true → is_count e ≡ true
    → tokens l ≡ ts ++ d ∷ us → tokens m ≡ ts ++ e ∷ us → line_of key word l ≡ None → line_of key word m ≡ None
not_line_other key word l m ts us d e pk pw hd he tl tm none =
    of_none (section_at m) (count_between key word (places_from 0 m))
    (found_among key word (places_from 0 m) ∙ ap (among key word) (bare_places 0 m ∙ tm) ∙ sym (among_other key word ts us d e pk pw hd he) ∙ ap (among key word) (sym (bare_places 0 l ∙ tl))
    ∙ sym (found_among key word (places_from 0 l)) ∙ none_of (section_at l) (count_between key word (places_from 0 l)) none)

is_some_same : (b : Bool) (d e : List ℕ) → is_some (if b then Some d else None) ≡ is_some (if b then Some e else None)
is_some_same true d e = refl
is_some_same false d e = refl

-- another count opens no Subr, and closes none
opens_other : (ts us : List (List ℕ)) (d e : List ℕ) → is_count d ≡ true → is_count e ≡ true → is_some (opens_subr (ts ++ d ∷ us)) ≡ is_some (opens_subr (ts ++ e ∷ us))
opens_other [] [] d e hd he = refl
opens_other [] (b ∷ []) d e hd he = refl
opens_other [] (b ∷ c ∷ us) d e hd he = rw (not_text d (codes "dup") hd refl, not_text e (codes "dup") he refl) refl
opens_other (x ∷ []) [] d e hd he = refl
opens_other (x ∷ []) (b ∷ us) d e hd he = is_some_same (bytes_eq x (codes "dup") && bytes_eq b (codes "{")) d e
opens_other (x ∷ y ∷ []) us d e hd he =
    ap (λ o. is_some (if bytes_eq x (codes "dup") && o then Some y else None)) (not_text d (codes "{") hd refl ∙ sym (not_text e (codes "{") he refl))
opens_other (x ∷ y ∷ z ∷ ts) us d e hd he = refl

-- after no CharStrings line
opens_entry_other : (earlier : List Item) (l m : List ℕ) (ts us : List (List ℕ)) (d e : List ℕ) → list_any is_glyphs_line earlier ≡ false → is_count d ≡ true → is_count e ≡ true
    → tokens l ≡ ts ++ d ∷ us → tokens m ≡ ts ++ e ∷ us → opens_entry earlier l ≡ false → opens_entry earlier m ≡ false
opens_entry_other earlier l m ts us d e no_glyphs hd he tl tm off =
    let here : (list_any is_subrs_line earlier && is_some (opens_subr (tokens l))) ≡ false = rw no_glyphs at off in
    rw no_glyphs (ap (λ o. list_any is_subrs_line earlier && is_some (opens_subr o)) tm ∙ ap (λ o. list_any is_subrs_line earlier && o) (sym (opens_other ts us d e hd he)) ∙ ap (λ o. list_any is_subrs_line earlier && is_some (opens_subr o)) (sym tl) ∙ here)

-- a section line is one with any count
pub record SectionAgain (earlier : List Item) (before after l : List ℕ) : Type 0 where
  pub count : List ℕ
  pub whole : l ≡ before ++ (count ++ after)
  pub counted : is_count count ≡ true
  pub other : (es : List ℕ) → is_count es ≡ true → (opens_entry earlier (before ++ (es ++ after)) ≡ false) × IsSectionLine earlier (Section before (decimal_value es) after) (before ++ (es ++ after))

subrs_again : (earlier : List Item) (before : List ℕ) (n : ℕ) (after l : List ℕ) → list_any is_glyphs_line earlier ≡ false → list_any is_subrs_line earlier ≡ false → subrs_line l ≡ Some (Section before n after) → glyphs_line l ≡ None
    → opens_entry earlier l ≡ false → SectionAgain earlier before after l
subrs_again earlier before n after l no_glyphs no_subrs e none off =
    let r = section_place (codes "/Subrs") (codes "array") l before after n refl e in
    let here = ap tokens r.whole ∙ r.tokens r.count r.counted in
    record {
      count = r.count;
      whole = r.whole;
      counted = r.counted;
      other = λ es counted. (
        opens_entry_other earlier l (before ++ (es ++ after)) r.front (tokens after) r.count es no_glyphs r.counted counted here (r.tokens es counted) off,
        (
          no_glyphs,
          inl (
            r.other es counted,
            not_line_other (codes "/CharStrings") (codes "dict") l (before ++ (es ++ after)) r.front (tokens after) r.count es refl refl r.counted counted here (r.tokens es counted) none,
            no_subrs,
          ),
        ),
      );
    }

glyphs_again : (earlier : List Item) (before : List ℕ) (n : ℕ) (after l : List ℕ) → list_any is_glyphs_line earlier ≡ false → subrs_line l ≡ None → glyphs_line l ≡ Some (Section before n after)
    → opens_entry earlier l ≡ false → SectionAgain earlier before after l
glyphs_again earlier before n after l no_glyphs none e off =
    let r = section_place (codes "/CharStrings") (codes "dict") l before after n refl e in
    let here = ap tokens r.whole ∙ r.tokens r.count r.counted in
    record {
      count = r.count;
      whole = r.whole;
      counted = r.counted;
      other = λ es counted. (
        opens_entry_other earlier l (before ++ (es ++ after)) r.front (tokens after) r.count es no_glyphs r.counted counted here (r.tokens es counted) off,
        (
          no_glyphs,
          inr (
            not_line_other (codes "/Subrs") (codes "array") l (before ++ (es ++ after)) r.front (tokens after) r.count es refl refl r.counted counted here (r.tokens es counted) none,
            r.other es counted,
          ),
        ),
      );
    }

pub section_again : (earlier : List Item) (before : List ℕ) (n : ℕ) (after l : List ℕ) → IsSectionLine earlier (Section before n after) l → opens_entry earlier l ≡ false → SectionAgain earlier before after l
section_again earlier before n after l h off =
    elim h.1 [
      | inl subrs ↦ subrs_again earlier before n after l h.0 subrs.2 subrs.0 subrs.1 off
      | inr glyphs ↦ glyphs_again earlier before n after l h.0 glyphs.0 glyphs.1 off
    ]
