-- Items that stay private items when an entry is replaced, put in or taken out.
use Rattle.std.proofs.Common.{◌≡◌, ℕ, Bool, true, false, not, ◌||◌, None, is_some, List, [], ◌∷◌, ◌++◌, take, filter_map, refl, sym, ◌∙◌, ap, inl, inr, append_assoc}
use Rattle.std.specs.List.{list_any, list_all, flat_map}
use Rattle.std.proofs.lemmas.Bool.{and_parts, and_from, cases_Bool, or_parts, or_left}
use Rattle.std.proofs.lemmas.List.{append-nil}
use Rattle.std.proofs.lemmas.List.Folds.{list_any-append, list_all-append}
use Rattle.t1_frac.specs.Words.{words}
use Rattle.t1_parts.specs.declared.item.Item.{Item}
use Rattle.t1_parts.specs.declared.item.Item.TheVariants.{Plain, Section, Subr, Glyph}
use Rattle.t1_text.specs.Lines.{lines, is_line, is_line_end, trimmed}
use Rattle.t1_text.specs.Tokens.{uncommented}
use Rattle.t1_parts.specs.Sections.{is_subrs_line, is_glyphs_line}
use Rattle.t1_parts.specs.Entries.{is_subr, is_glyph, is_word, has_brace}
use Rattle.t1_parts.specs.LenIV.{said_lead, lead_of_token}
use Rattle.t1_parts.specs.Counts.{raised}
use Rattle.t1_parts.specs.Printing.{last_line}
use Rattle.t1_source.specs.Editing.{body_words, braced, closing_of, closing_among}
use Rattle.t1_source.specs.WellFormed.{is_inner, IsEntry, Stands, Stand, says_lead_well, IsPrivate}
use Rattle.t1_source.proofs.StandLaws.{Serves, serves_itself, serves_further, stand_serves, stand_front, stand_back, stand_both, none_further, none_both}
use Rattle.t1_source.proofs.WellFormedBodyLaws.{words_are_words, words_bytes, open_safe, all_take}
use Rattle.t1_source.proofs.WellFormedSourceLaws.{lines_are_lines, private_well_formed}
use Rattle.t1_source.proofs.ItemPlaceLaws.{before_last, any_middle, said_middle}

-- a closing text as an entry may have it
abbrev pub IsClosing : List ℕ → Type 0
IsClosing closing = (trimmed closing ≡ closing) × (is_inner (last_line closing) ≡ true)

-- the closing text of an item that stands
pub closing_stands : (e : List Item) (i : Item) → Stands e i → IsClosing (closing_of i)
closing_stands e (Plain l) h = (refl, refl)
closing_stands e (Section before n after) h = (refl, refl)
closing_stands e (Subr n ws closing) h = (h.4.2, h.4.3)
closing_stands e (Glyph g ws closing) h = (h.3.2, h.3.3)

found_closing : (test : Item → Bool) (otherwise : List ℕ) (e items : List Item) (last : List ℕ) → IsClosing otherwise → Stand e items → IsClosing (closing_among test otherwise (items ++ Plain last ∷ []))
found_closing test otherwise e [] last h k =
    elim (cases_Bool (test (Plain last))) [
      | inl on ↦ rw on (refl, refl)
      | inr off ↦ rw off h
    ]
found_closing test otherwise e (i ∷ items) last h k =
    elim (cases_Bool (test i)) [
      | inl on ↦ rw on (closing_stands e i k.0)
      | inr off ↦ rw off (found_closing test otherwise (e ++ i ∷ []) items last h k.1)
    ]

-- the closing text of a new entry
pub new_closing : (test : Item → Bool) (otherwise : List ℕ) (items : List Item) → IsClosing otherwise → IsPrivate items → IsClosing (closing_among test otherwise items)
new_closing test otherwise items h p = rw p.whole (found_closing test otherwise [] p.inner p.closefile h p.stand)

-- the words of a body without braces
body_are_words : (ls : List (List ℕ)) → list_any has_brace ls ≡ false → list_all is_word (flat_map (λ l. words (uncommented l)) ls) ≡ true
body_are_words [] h = refl
body_are_words (l ∷ ls) h =
    let parts = or_parts (has_brace l) (list_any has_brace ls) h in
    let rest = flat_map (λ k. words (uncommented k)) ls in
    list_all-append is_word (words (uncommented l)) rest ∙ and_from (list_all is_word (words (uncommented l))) (list_all is_word rest) (words_are_words (uncommented l) (open_safe l parts.0)) (body_are_words ls parts.1)

body_are_lines : (ls : List (List ℕ)) → list_all is_line ls ≡ true → list_all is_line (flat_map (λ l. words (uncommented l)) ls) ≡ true
body_are_lines [] h = refl
body_are_lines (l ∷ ls) h =
    let parts = and_parts (is_line l) (list_all is_line ls) h in
    let rest = flat_map (λ k. words (uncommented k)) ls in
    list_all-append is_line (words (uncommented l)) rest
    ∙ and_from (list_all is_line (words (uncommented l))) (list_all is_line rest) (words_bytes (λ c. not (is_line_end c)) (uncommented l) (all_take (λ c. not (is_line_end c)) _ l parts.0)) (body_are_lines ls parts.1)

-- an entry of the words of a body
pub new_entry : (body closing : List ℕ) → braced body ≡ false → IsClosing closing → IsEntry (body_words body) closing
new_entry body closing h k = (body_are_words (lines body) h, body_are_lines (lines body) (lines_are_lines body), k.0, k.1)

-- what isn't a plain line
abbrev pub is_not_plain : Item → Bool
is_not_plain (Plain l) = false
is_not_plain (Section before n after) = true
is_not_plain (Subr n ws closing) = true
is_not_plain (Glyph g ws closing) = true

-- an entry says nothing of sections, and nothing of lenIV
pub record IsSilent (i : Item) : Type 0 where
  pub subrs : is_subrs_line i ≡ false
  pub glyphs : is_glyphs_line i ≡ false
  pub lead : said_lead i ≡ None
  pub entry : is_not_plain i ≡ true

pub silent_subr : (n : ℕ) (ws : List (List ℕ)) (closing : List ℕ) → IsSilent (Subr n ws closing)
silent_subr n ws closing = record { subrs = refl; glyphs = refl; lead = refl; entry = refl }

pub silent_glyph : (g : List ℕ) (ws : List (List ℕ)) (closing : List ℕ) → IsSilent (Glyph g ws closing)
silent_glyph g ws closing = record { subrs = refl; glyphs = refl; lead = refl; entry = refl }

said_well : (items others : List Item) → filter_map said_lead items ≡ filter_map said_lead others → says_lead_well others ≡ true → says_lead_well items ≡ true
said_well items others e h = ap (λ t. list_all (λ o. is_some (lead_of_token o)) (take 1 t)) e ∙ h

-- an entry of private items, replaced by one of its kind and key
pub exchanged : (items a : List Item) (x : Item) (b : List Item) (y : Item) → IsPrivate items → items ≡ a ++ x ∷ b → IsSilent x → IsSilent y
    → ((n : ℕ) → is_subr n x ≡ is_subr n y) → ((g : List ℕ) → is_glyph g x ≡ is_glyph g y) → (Stands a x → Stands a y) → IsPrivate (raised (a ++ y ∷ b))
exchanged items a x b y p whole sx sy number name stands =
    let r = before_last is_not_plain p.inner (Plain p.closefile) a x b refl sx.entry (sym p.whole ∙ whole) in
    let c = r.0 in
    let old : Stand [] (a ++ x ∷ c) = rw r.2 at p.stand in
    let back = stand_back [] a (x ∷ c) old in
    let more = stand_serves (a ++ x ∷ []) (a ++ y ∷ []) c (serves_further a a c x y (sx.subrs ∙ sym sy.subrs) (sx.glyphs ∙ sym sy.glyphs) number name (serves_itself a (x ∷ c))) back.1 in
    private_well_formed (a ++ y ∷ b) (a ++ y ∷ c) p.closefile
    (ap (λ t. a ++ y ∷ t) r.1 ∙ sym (append_assoc a (y ∷ c) (Plain p.closefile ∷ [])))
    (stand_both [] a (y ∷ c) (stand_front [] a (x ∷ c) old) (stands back.0, more))
    p.line p.last
    (any_middle is_glyphs_line a y b sy.glyphs ∙ sym (any_middle is_glyphs_line a x b sx.glyphs) ∙ ap (list_any is_glyphs_line) (sym whole) ∙ p.section)
    (said_well (a ++ y ∷ b) items (said_middle said_lead a y b sy.lead ∙ sym (said_middle said_lead a x b sx.lead) ∙ ap (filter_map said_lead) (sym whole)) p.lead)

-- an entry of private items, taken out
pub taken_out : (items a : List Item) (x : Item) (b : List Item) → IsPrivate items → items ≡ a ++ x ∷ b → IsSilent x → IsPrivate (raised (a ++ b))
taken_out items a x b p whole sx =
    let r = before_last is_not_plain p.inner (Plain p.closefile) a x b refl sx.entry (sym p.whole ∙ whole) in
    let c = r.0 in
    let old : Stand [] (a ++ x ∷ c) = rw r.2 at p.stand in
    let back = stand_back [] a (x ∷ c) old in
    let serves : Serves (a ++ x ∷ []) a c = record {
      subrs = any_middle is_subrs_line a x [] sx.subrs ∙ ap (list_any is_subrs_line) (append-nil a);
      glyphs = any_middle is_glyphs_line a x [] sx.glyphs ∙ ap (list_any is_glyphs_line) (append-nil a);
      number = λ n on none. (none_further (is_subr n) a x none).0;
      name = λ g on none. (none_further (is_glyph g) a x none).0;
    } in
    private_well_formed (a ++ b) (a ++ c) p.closefile
    (ap (λ t. a ++ t) r.1 ∙ sym (append_assoc a c (Plain p.closefile ∷ [])))
    (stand_both [] a c (stand_front [] a (x ∷ c) old) (stand_serves (a ++ x ∷ []) a c serves back.1))
    p.line p.last
    (sym (any_middle is_glyphs_line a x b sx.glyphs) ∙ ap (list_any is_glyphs_line) (sym whole) ∙ p.section)
    (said_well (a ++ b) items (sym (said_middle said_lead a x b sx.lead) ∙ ap (filter_map said_lead) (sym whole)) p.lead)

-- an entry put in after one that isn't a plain line
pub put_in : (items a : List Item) (x : Item) (b : List Item) (y : Item) → IsPrivate items → items ≡ a ++ x ∷ b → is_not_plain x ≡ true → IsSilent y
    → ((n : ℕ) → list_any (is_subr n) items ≡ true → is_subr n y ≡ false) → ((g : List ℕ) → list_any (is_glyph g) items ≡ true → is_glyph g y ≡ false) → (Stands a x → Stands (a ++ x ∷ []) y)
    → IsPrivate (raised ((a ++ x ∷ []) ++ y ∷ b))
put_in items a x b y p whole entry sy number name stands =
    let front = a ++ x ∷ [] in
    let r = before_last is_not_plain p.inner (Plain p.closefile) a x b refl entry (sym p.whole ∙ whole) in
    let c = r.0 in
    let old : Stand [] (a ++ x ∷ c) = rw r.2 at p.stand in
    let back = stand_back [] a (x ∷ c) old in
    let before : Stand [] front = stand_both [] a (x ∷ []) (stand_front [] a (x ∷ c) old) (back.0, tt) in
    let all : items ≡ front ++ b = whole ∙ sym (append_assoc a (x ∷ []) b) in
    let following : (test : Item → Bool) → list_any test c ≡ true → list_any test items ≡ true = λ test on.
    ap (list_any test) all ∙ list_any-append test front b ∙ ap (λ t. list_any test front || list_any test t) r.1 ∙ ap (λ t. list_any test front || t) (list_any-append test c (Plain p.closefile ∷ [])) ∙ any_in (list_any test front) (list_any test c) _ on in
    let serves : Serves front (front ++ y ∷ []) c = record {
      subrs = sym (any_middle is_subrs_line front y [] sy.subrs ∙ ap (list_any is_subrs_line) (append-nil front));
      glyphs = sym (any_middle is_glyphs_line front y [] sy.glyphs ∙ ap (list_any is_glyphs_line) (append-nil front));
      number = λ n on none. none_both (is_subr n) front (y ∷ []) none (only (is_subr n y) (number n (following (is_subr n) on)));
      name = λ g on none. none_both (is_glyph g) front (y ∷ []) none (only (is_glyph g y) (name g (following (is_glyph g) on)));
    } in
    private_well_formed (front ++ y ∷ b) (front ++ y ∷ c) p.closefile
    (ap (λ t. front ++ y ∷ t) r.1 ∙ sym (append_assoc front (y ∷ c) (Plain p.closefile ∷ [])))
    (stand_both [] front (y ∷ c) before (stands back.0, stand_serves front (front ++ y ∷ []) c serves back.1))
    p.line p.last
    (any_middle is_glyphs_line front y b sy.glyphs ∙ ap (list_any is_glyphs_line) (sym all) ∙ p.section)
    (said_well (front ++ y ∷ b) items (said_middle said_lead front y b sy.lead ∙ ap (filter_map said_lead) (sym all)) p.lead)
  where
    any_in : (f c d : Bool) → c ≡ true → (f || (c || d)) ≡ true
    any_in true c d h = refl
    any_in false c d h = or_left c d h

    only : (t : Bool) → t ≡ false → (t || false) ≡ false
    only t h = rw h refl
