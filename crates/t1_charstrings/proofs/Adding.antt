-- The length of the lines of items, of which one is put in the place of another, put in or taken out.
use Rattle.std.proofs.Common.{◌≡◌, ◌+◌, ◌<◌, ◌≤◌, ℕ, zero, suc, Bool, true, false, cond, List, [], ◌∷◌, ◌++◌, map, length, length-append, refl, sym, ap, subst, ◌∙◌, Option, arith}
use Rattle.std.specs.Prelude.{◌||◌, nat_eq}
use Rattle.std.specs.List.{insert, list_any, remove, slice_set}
use Rattle.std.specs.Str.{bytes_eq}
use Rattle.std.proofs.lemmas.Bool.{or_parts}
use Rattle.std.proofs.lemmas.List.Folds.{list_any-append}
use Rattle.t1_parts.specs.declared.item.Item.{Item}
use Rattle.t1_parts.specs.declared.item.Item.TheVariants as items
use Rattle.t1_parts.specs.Counts.{glyphs_needed, raised_item, subrs_needed}
use Rattle.t1_parts.specs.Entries.{is_glyph, is_subr}
use Rattle.t1_parts.specs.SourceParts.{SourceParts}
use Rattle.t1_source.specs.WellFormed.{IsWellFormed, Stand, Stands}
use Rattle.t1_run.specs.Run.{Key, Subr, Glyph}
use Rattle.t1_charstrings.specs.declared.entries.Charstrings.{Charstrings}
use Rattle.t1_charstrings.specs.Changed.{Sets}
use Rattle.t1_charstrings.specs.Entries.{KeptCharstring}
use Rattle.t1_charstrings.specs.Kept.{charstring_at}
use Rattle.t1_charstrings.specs.Lines.{kept_entry_line, kept_line, kept_lines_text}
use Rattle.t1_font.proofs.Lookups.{bytes_tell, numbers_tell, Distinguishes}
use Rattle.t1_charstrings.specs.Sums.{has_key, item_at, section_line, section_lines_text, InsertLenLaw, PutLenLaw, RaisedLenLaw, RemoveLenLaw}

-- ---- items that don't have the key

pub turned : {Q : Type 0} (eq : Q → Q → Bool) → Distinguishes eq → (a b : Q) → eq a b ≡ false → eq b a ≡ false
turned eq t a b off = by (eq b a) refl where
  by : (c : Bool) → eq b a ≡ c → c ≡ false
  by true on = let never : true ≡ false = sym (t.itself a) ∙ ap (eq a) (sym (t.same b a on)) ∙ off in absurd (cc)
  by false other = refl

-- the line of an item that doesn't have the key stays
same-line : (key : Key) (entry : Option KeptCharstring) (old new : Charstrings) → Sets key entry old new → (operator : List ℕ) (i : Item) → has_key key i ≡ false
    → kept_line new operator i ≡ kept_line old operator i
same-line key entry old new sets operator (items.Plain l) h = refl
same-line key entry old new sets operator (items.Section before n after) h = refl
same-line (Subr m) entry old new sets operator (items.Subr n ws closing) h =
    ap (kept_entry_line operator closing) (sets (Subr n) ∙ ap (λ b. cond b entry (charstring_at old (Subr n))) (turned nat_eq numbers_tell m n h))
same-line (Glyph g) entry old new sets operator (items.Subr n ws closing) h = ap (kept_entry_line operator closing) (sets (Subr n))
same-line (Subr m) entry old new sets operator (items.Glyph g ws closing) h = ap (kept_entry_line operator closing) (sets (Glyph g))
same-line (Glyph f) entry old new sets operator (items.Glyph g ws closing) h =
    ap (kept_entry_line operator closing) (sets (Glyph g) ∙ ap (λ b. cond b entry (charstring_at old (Glyph g))) (turned bytes_eq bytes_tell f g h))

same-lines : (key : Key) (entry : Option KeptCharstring) (old new : Charstrings) → Sets key entry old new → (operator : List ℕ) (is : List Item) → list_any (has_key key) is ≡ false
    → kept_lines_text new operator is ≡ kept_lines_text old operator is
same-lines key entry old new sets operator [] h = refl
same-lines key entry old new sets operator (i ∷ is) h =
    let h' = or_parts (has_key key i) (list_any (has_key key) is) h in
    rw (same-line key entry old new sets operator i h'.0, same-lines key entry old new sets operator is h'.1) refl

-- ---- one item in the place of another, put in, taken out

pub text-both : (c : Charstrings) (operator : List ℕ) (i : Item) (is : List Item)
    → length (kept_lines_text c operator (i ∷ is)) ≡ length (kept_line c operator i) + length (kept_lines_text c operator is)
text-both c operator i is = length-append (kept_line c operator i) (kept_lines_text c operator is)

-- no other item has the key
abbrev pub Alone : (Item → Bool) → ℕ → List Item → Type 0
Alone test at [] = Unit {0}
Alone test zero (i ∷ is) = list_any test is ≡ false
Alone test (suc at) (i ∷ is) = (test i ≡ false) × Alone test at is

module _ (key : Key) (entry : Option KeptCharstring) (old new : Charstrings) (sets : Sets key entry old new) (operator : List ℕ) where
  put-len : (is : List Item) (at : ℕ) (item : Item) → at < length is → Alone (has_key key) at is
      → length (kept_lines_text new operator (slice_set is at item)) + length (kept_line old operator (item_at is at))
      ≡ length (kept_lines_text old operator is) + length (kept_line new operator item)
  put-len [] at item within alone = absurd (omega (arith, within))
  put-len (i ∷ is) zero item within alone =
      let rest = ap (λ (t : List ℕ). length t) (same-lines key entry old new sets operator is alone) in
      omega (arith, rest, text-both new operator item is, text-both old operator i is)
  put-len (i ∷ is) (suc at) item within alone =
      let first = ap (λ (t : List ℕ). length t) (same-line key entry old new sets operator i alone.0) in
      let rest = put-len is at item (omega (arith, within)) alone.1 in
      omega (arith, first, rest, text-both new operator i (slice_set is at item), text-both old operator i is)

  remove-len : (is : List Item) (at : ℕ) → at < length is → Alone (has_key key) at is
      → length (kept_lines_text new operator (remove is at)) + length (kept_line old operator (item_at is at)) ≡ length (kept_lines_text old operator is)
  remove-len [] at within alone = absurd (omega (arith, within))
  remove-len (i ∷ is) zero within alone =
      let rest = ap (λ (t : List ℕ). length t) (same-lines key entry old new sets operator is alone) in
      omega (arith, rest, text-both old operator i is)
  remove-len (i ∷ is) (suc at) within alone =
      let first = ap (λ (t : List ℕ). length t) (same-line key entry old new sets operator i alone.0) in
      let rest = remove-len is at (omega (arith, within)) alone.1 in
      omega (arith, first, rest, text-both new operator i (remove is at), text-both old operator i is)

  insert-len : (is : List Item) (at : ℕ) (item : Item) → at ≤ length is → list_any (has_key key) is ≡ false
      → length (kept_lines_text new operator (insert is at item)) ≡ length (kept_lines_text old operator is) + length (kept_line new operator item)
  insert-len is zero item within none =
      let rest = ap (λ (t : List ℕ). length t) (same-lines key entry old new sets operator is none) in
      omega (arith, rest, text-both new operator item is)
  insert-len [] (suc at) item within none = absurd (omega (arith, within))
  insert-len (i ∷ is) (suc at) item within none =
      let h = or_parts (has_key key i) (list_any (has_key key) is) none in
      let first = ap (λ (t : List ℕ). length t) (same-line key entry old new sets operator i h.0) in
      let rest = insert-len is at item (omega (arith, within)) h.1 in
      omega (arith, first, rest, text-both new operator i (insert is at item), text-both old operator i is)

-- ---- in a source that is kept an entry's key stands once

pub key-first : (key : Key) (earlier : List Item) (i : Item) → Stands earlier i → has_key key i ≡ true → list_any (has_key key) earlier ≡ false
key-first key earlier (items.Plain l) h on = none key on where
  none : (key : Key) → has_key key (items.Plain l) ≡ true → list_any (has_key key) earlier ≡ false
  none (Subr n) on = absurd (cc)
  none (Glyph g) on = absurd (cc)
key-first key earlier (items.Section c n d) h on = none key on where
  none : (key : Key) → has_key key (items.Section c n d) ≡ true → list_any (has_key key) earlier ≡ false
  none (Subr n) on = absurd (cc)
  none (Glyph g) on = absurd (cc)
key-first (Subr m) earlier (items.Subr n ws closing) h on = ap (λ k. list_any (is_subr k) earlier) (numbers_tell.same m n on) ∙ h.2
key-first (Glyph f) earlier (items.Subr n ws closing) h on = absurd (cc)
key-first (Subr m) earlier (items.Glyph g ws closing) h on = absurd (cc)
key-first (Glyph f) earlier (items.Glyph g ws closing) h on = ap (λ k. list_any (is_glyph k) earlier) (bytes_tell.same f g on) ∙ h.1

plain-none : (key : Key) (l : List ℕ) → has_key key (items.Plain l) ≡ false
plain-none (Subr n) l = refl
plain-none (Glyph g) l = refl

pub last-any : (test : Item → Bool) (a : List Item) (i : Item) (b : Bool) → list_any test a ≡ b → list_any test (a ++ i ∷ []) ≡ (b || (test i || false))
last-any test a i b e = list_any-append test a (i ∷ []) ∙ ap (λ c. c || (test i || false)) e

-- after an item of the key none has it
pub none-later : (key : Key) (earlier is : List Item) (last : List ℕ) → list_any (has_key key) earlier ≡ true → Stand earlier is
    → list_any (has_key key) (is ++ items.Plain last ∷ []) ≡ false
none-later key earlier [] last there h = ap (λ b. b || false) (plain-none key last)
none-later key earlier (i ∷ is) last there h =
    by (has_key key i) refl (none-later key (earlier ++ i ∷ []) is last (last-any (has_key key) earlier i true there) h.1)
  where
    by : (b : Bool) → has_key key i ≡ b → list_any (has_key key) (is ++ items.Plain last ∷ []) ≡ false
        → (b || list_any (has_key key) (is ++ items.Plain last ∷ [])) ≡ false
    by true on rest = let never : true ≡ false = sym there ∙ key-first key earlier i h.0 on in absurd (cc)
    by false off rest = rest

-- where none has the key, none at a place does
none-at : (key : Key) (is : List Item) (at : ℕ) → has_key key (item_at is at) ≡ true → list_any (has_key key) is ≡ false → ⊥
none-at key [] at on none = let never : false ≡ true = sym (plain-none key []) ∙ on in cc
none-at key (j ∷ is) zero on none =
    let h = or_parts (has_key key j) (list_any (has_key key) is) none in
    let never : true ≡ false = sym on ∙ h.0 in
    cc
none-at key (j ∷ is) (suc at) on none = none-at key is at on (or_parts (has_key key j) (list_any (has_key key) is) none).1

alone-at : (key : Key) (earlier is : List Item) (last : List ℕ) (at : ℕ) → Stand earlier is
    → has_key key (item_at (is ++ items.Plain last ∷ []) at) ≡ true → list_any (has_key key) earlier ≡ false
    → Alone (has_key key) at (is ++ items.Plain last ∷ [])
alone-at key earlier [] last zero h on none = refl
alone-at key earlier [] last (suc at) h on none = (plain-none key last, tt)
alone-at key earlier (i ∷ is) last zero h on none =
    none-later key (earlier ++ i ∷ []) is last (last-any (has_key key) earlier i false none ∙ ap (λ b. b || false) on) h.1
alone-at key earlier (i ∷ is) last (suc at) h on none =
    by (has_key key i) refl
    (λ off. alone-at key (earlier ++ i ∷ []) is last at h.1 on (last-any (has_key key) earlier i false none ∙ ap (λ b. b || false) off))
  where
    by : (b : Bool) → has_key key i ≡ b → (has_key key i ≡ false → Alone (has_key key) at (is ++ items.Plain last ∷ []))
        → (b ≡ false) × Alone (has_key key) at (is ++ items.Plain last ∷ [])
    by true here rest =
        absurd (none-at key (is ++ items.Plain last ∷ []) at on
        (none-later key (earlier ++ i ∷ []) is last (last-any (has_key key) earlier i false none ∙ ap (λ b. b || false) here) h.1))
    by false off rest = (refl, rest off)

pub alone : (s : SourceParts) (key : Key) (at : ℕ) → IsWellFormed s → has_key key (item_at s.items at) ≡ true → Alone (has_key key) at s.items
alone s key at well on =
    let p = well.items in
    subst (Alone (has_key key) at) (sym p.whole)
    (alone-at key [] p.inner p.closefile at p.stand (ap (λ is. has_key key (item_at is at)) (sym p.whole) ∙ on) refl)

pub put_len : PutLenLaw
put_len s key at item well within on old new entry sets operator = put-len key entry old new sets operator s.items at item within (alone s key at well on)

pub remove_len : RemoveLenLaw
remove_len s key at well within on old new entry sets operator = remove-len key entry old new sets operator s.items at within (alone s key at well on)

pub inserted_len : InsertLenLaw
inserted_len s key at item within none old new entry sets operator = insert-len key entry old new sets operator s.items at item within none

-- ---- raised counts

raised-one : (subrs glyphs : ℕ) (c : Charstrings) (operator : List ℕ) (i : Item)
    → length (kept_line c operator (raised_item subrs glyphs i)) + length (section_line i) ≡ length (kept_line c operator i) + length (section_line (raised_item subrs glyphs i))
raised-one subrs glyphs c operator (items.Plain l) = refl
raised-one subrs glyphs c operator (items.Section before n after) = omega arith
raised-one subrs glyphs c operator (items.Subr n ws closing) = refl
raised-one subrs glyphs c operator (items.Glyph g ws closing) = refl

raised-len : (subrs glyphs : ℕ) (c : Charstrings) (operator : List ℕ) (is : List Item)
    → length (kept_lines_text c operator (map (raised_item subrs glyphs) is)) + length (section_lines_text is)
    ≡ length (kept_lines_text c operator is) + length (section_lines_text (map (raised_item subrs glyphs) is))
raised-len subrs glyphs c operator [] = refl
raised-len subrs glyphs c operator (i ∷ is) =
    let j = raised_item subrs glyphs i in
    let js = map (raised_item subrs glyphs) is in
    omega (
      arith,
      raised-one subrs glyphs c operator i,
      raised-len subrs glyphs c operator is,
      text-both c operator j js,
      text-both c operator i is,
      length-append (section_line i) (section_lines_text is),
      length-append (section_line j) (section_lines_text js),
    )

pub raised_len : RaisedLenLaw
raised_len is c operator = raised-len (subrs_needed is) (glyphs_needed is) c operator is
