-- The private text of a source, of the charstrings that are kept.
use Rattle.std.proofs.Common.{◌≡◌, ℕ, false, cond, List, [], ◌∷◌, ◌++◌, append_assoc, Option, None, Some, Result, Ok, Err, refl, sym, ap, subst, ◌∙◌}
use Rattle.std.specs.List.{flat_map, list_any}
use Rattle.std.specs.Option.{option_map, option_or}
use Rattle.std.specs.Result.{result_ok}
use Rattle.std.proofs.lemmas.Bool.{or_parts}
use Rattle.std.proofs.lemmas.Slice.Eq.{bytes_eq-Decides}
use Rattle.t1_frac.specs.declared.fault.Code.{Code}
use Rattle.t1_frac.specs.declared.fault.Fault.{Fault}
use Rattle.t1_frac.specs.declared.fault.Place.{Place}
use Rattle.t1_frac.specs.declared.fault.Place.TheVariants as places
use Rattle.t1_frac.specs.Outcome.{reported_at, ◌>>=◌}
use Rattle.t1_parts.specs.declared.item.Item.{Item}
use Rattle.t1_parts.specs.declared.item.Item.TheVariants as items
use Rattle.t1_parts.specs.Entries.{is_glyph, is_subr}
use Rattle.t1_parts.specs.LenIV.{lead}
use Rattle.t1_parts.specs.Operator.{operator}
use Rattle.t1_parts.specs.SourceParts.{SourceParts}
use Rattle.t1_source.specs.WellFormed.{IsWellFormed, Stand, Stands}
use Rattle.t1_code.specs.declared.command.Command.{Command}
use Rattle.t1_code.specs.Charstring.{charstring}
use Rattle.t1_code.specs.Cipher.{encrypted_charstring}
use Rattle.t1_code.specs.Pfb.{entry_text}
use Rattle.t1_code.specs.Words.{commands}
use Rattle.t1_run.specs.Run.{Key, Subr, Glyph}
use Rattle.t1_run.specs.RunKeys.{body_at}
use Rattle.t1_run.proofs.Asked.{eq_self}
use Rattle.t1_font.specs.Assembly.{entry_line as font_line, item_line, private_text}
use Rattle.t1_font.specs.Bodies.{bodies, bodies_check, body_check, glyph_among, glyph_in, subr_among, subr_in, words_check}
use Rattle.t1_charstrings.specs.declared.entries.Charstrings.{Charstrings}
use Rattle.t1_charstrings.specs.Batch.{item_line_by, text_by}
use Rattle.t1_charstrings.specs.Entries.{KeptCharstring, encrypted, entry_head}
use Rattle.t1_charstrings.specs.Kept.{charstring_at}
use Rattle.t1_charstrings.specs.Laws.{KeptTextLaw}
use Rattle.t1_charstrings.specs.Lines.{kept_entry_line, kept_line}

-- ---- each entry is the first of its key

abbrev IsFirst : List Item → Item → Type 0
IsFirst earlier (items.Plain l) = Unit {0}
IsFirst earlier (items.Section before n after) = Unit {0}
IsFirst earlier (items.Subr n ws closing) = list_any (is_subr n) earlier ≡ false
IsFirst earlier (items.Glyph g ws closing) = list_any (is_glyph g) earlier ≡ false

abbrev AreFirst : List Item → List Item → Type 0
AreFirst earlier [] = Unit {0}
AreFirst earlier (i ∷ is) = IsFirst earlier i × AreFirst (earlier ++ i ∷ []) is

first-one : (earlier : List Item) (i : Item) → Stands earlier i → IsFirst earlier i
first-one earlier (items.Plain l) h = tt
first-one earlier (items.Section before n after) h = tt
first-one earlier (items.Subr n ws closing) h = h.2
first-one earlier (items.Glyph g ws closing) h = h.1

first-all : (earlier is : List Item) (last : List ℕ) → Stand earlier is → AreFirst earlier (is ++ items.Plain last ∷ [])
first-all earlier [] last h = (tt, tt)
first-all earlier (i ∷ is) last h = (first-one earlier i h.0, first-all (earlier ++ i ∷ []) is last h.1)

subr-other : (n : ℕ) (i : Item) → is_subr n i ≡ false → subr_in i n ≡ None
subr-other n (items.Plain l) h = refl
subr-other n (items.Section before k after) h = refl
subr-other n (items.Subr m ws closing) h = ap (λ b. cond b (result_ok (commands ws)) None) h
subr-other n (items.Glyph g ws closing) h = refl

glyph-other : (g : List ℕ) (i : Item) → is_glyph g i ≡ false → glyph_in i g ≡ None
glyph-other g (items.Plain l) h = refl
glyph-other g (items.Section before k after) h = refl
glyph-other g (items.Subr n ws closing) h = refl
glyph-other g (items.Glyph name ws closing) h = ap (λ b. cond b (result_ok (commands ws)) None) h

subr-past : (n : ℕ) (a b : List Item) → list_any (is_subr n) a ≡ false → subr_among (a ++ b) n ≡ subr_among b n
subr-past n [] b h = refl
subr-past n (i ∷ a) b h =
    let h' = or_parts (is_subr n i) (list_any (is_subr n) a) h in
    ap (λ r. option_or r (subr_among (a ++ b) n)) (subr-other n i h'.0) ∙ subr-past n a b h'.1

glyph-past : (g : List ℕ) (a b : List Item) → list_any (is_glyph g) a ≡ false → glyph_among (a ++ b) g ≡ glyph_among b g
glyph-past g [] b h = refl
glyph-past g (i ∷ a) b h =
    let h' = or_parts (is_glyph g i) (list_any (is_glyph g) a) h in
    ap (λ r. option_or r (glyph_among (a ++ b) g)) (glyph-other g i h'.0) ∙ glyph-past g a b h'.1

-- ---- a line, and all lines

-- at the key of each body of these items its charstring is kept
abbrev pub Serves : ℕ → List Item → (Key → Option KeptCharstring) → Type 0
Serves front all at = (k : Key) (body : List Command) → body_at (bodies all) k ≡ Some body → at k ≡ Some (encrypted front k body)

line-of : (front : ℕ) (name closing : List ℕ) (place : Place) (key : Key) (r : Result (List Command) Code) (kept : Option KeptCharstring)
    → ((body : List Command) → result_ok r ≡ Some body → kept ≡ Some (encrypted front key body))
    → ◌≡◌ {A = Result (Unit {0}) Fault} (reported_at place r >>= λ _. Ok tt) (Ok tt)
    → ◌≡◌ {A = Result (List ℕ) Fault} (reported_at place r >>= λ body. Ok (entry_text (entry_head key) name (encrypted_charstring front (charstring body)) closing))
    (Ok (kept_entry_line name closing kept))
line-of front name closing place key (Ok body) kept is h = sym (ap (λ k. Ok (kept_entry_line name closing k)) (is body refl))
line-of front name closing place key (Err code) kept is h = absurd (cc)

line-kept : (front : ℕ) (name : List ℕ) (at : Key → Option KeptCharstring) (all : List Item) → Serves front all at
    → (earlier : List Item) (i : Item) (is : List Item) → all ≡ earlier ++ i ∷ is → IsFirst earlier i → body_check i ≡ Ok tt
    → item_line front name i ≡ Ok (item_line_by at name i)
unfolding font_line words_check
line-kept front name at all each earlier (items.Plain l) is whole first sound = refl
line-kept front name at all each earlier (items.Section before n after) is whole first sound = refl
line-kept front name at all each earlier (items.Subr n ws closing) is whole first sound =
    let i = items.Subr n ws closing in
    let own : subr_among all n ≡ option_or (result_ok (commands ws)) (subr_among is n) =
    ap (λ l. subr_among l n) whole ∙ subr-past n earlier (i ∷ is) first
    ∙ ap (λ b. option_or (cond b (result_ok (commands ws)) None) (subr_among is n)) (eq_self n) in
    line-of front name closing (places.Subr n) (Subr n) (commands ws) (at (Subr n))
    (λ body e. each (Subr n) body (own ∙ ap (λ r. option_or r (subr_among is n)) e)) sound
line-kept front name at all each earlier (items.Glyph g ws closing) is whole first sound =
    let i = items.Glyph g ws closing in
    let own : glyph_among all g ≡ option_or (result_ok (commands ws)) (glyph_among is g) =
    ap (λ l. glyph_among l g) whole ∙ glyph-past g earlier (i ∷ is) first
    ∙ ap (λ b. option_or (cond b (result_ok (commands ws)) None) (glyph_among is g)) ((bytes_eq-Decides g g).1 refl) in
    line-of front name closing (places.Glyph g) (Glyph g) (commands ws) (at (Glyph g))
    (λ body e. each (Glyph g) body (own ∙ ap (λ r. option_or r (glyph_among is g)) e)) sound

pub both_fine : (a b : Result (Unit {0}) Fault) → (a >>= λ _. b) ≡ Ok tt → (a ≡ Ok tt) × (b ≡ Ok tt)
both_fine (Ok tt) b h = (refl, h)
both_fine (Err fault) b h = absurd (cc)

text-kept : (front : ℕ) (name : List ℕ) (at : Key → Option KeptCharstring) (all : List Item) → Serves front all at
    → (earlier is : List Item) → all ≡ earlier ++ is → AreFirst earlier is → bodies_check is ≡ Ok tt
    → private_text front name is ≡ Ok (text_by at name is)
text-kept front name at all each earlier [] whole first sound = refl
text-kept front name at all each earlier (i ∷ is) whole first sound =
    let checks = both_fine (body_check i) (bodies_check is) sound in
    let line = line-kept front name at all each earlier i is whole first.0 checks.0 in
    let rest = text-kept front name at all each (earlier ++ i ∷ []) is (whole ∙ sym (append_assoc earlier (i ∷ []) is)) first.1 checks.1 in
    rw (line, rest) refl

-- the private text of a source is that of what is kept at the keys of its bodies
pub text_by_is : (s : SourceParts) (at : Key → Option KeptCharstring) → IsWellFormed s → bodies_check s.items ≡ Ok tt → Serves (lead s) s.items at
    → private_text (lead s) (operator s) s.items ≡ Ok (text_by at (operator s) s.items)
text_by_is s at well sound each =
    let p = well.items in
    text-kept (lead s) (operator s) at s.items each [] s.items refl
    (subst (AreFirst []) (sym p.whole) (first-all [] p.inner p.closefile p.stand)) sound

kept-line : (c : Charstrings) (name : List ℕ) (i : Item) → item_line_by (charstring_at c) name i ≡ kept_line c name i
kept-line c name (items.Plain l) = refl
kept-line c name (items.Section before n after) = refl
kept-line c name (items.Subr n ws closing) = refl
kept-line c name (items.Glyph g ws closing) = refl

pub kept_text_is : KeptTextLaw
kept_text_is s c well kept =
    text_by_is s (charstring_at c) well kept.sound (λ k body there. kept.each k ∙ ap (option_map (encrypted (lead s) k)) there)
    ∙ (λ j. Ok (flat_map (λ i. kept-line c (operator s) i j) s.items))
