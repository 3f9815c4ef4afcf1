-- Items that stand after others, and after others in their place.
use Rattle.std.proofs.Common.{◌≡◌, ℕ, Bool, true, false, ◌&&◌, ◌||◌, ◌==◌, if◌then◌else◌, is_some, List, [], ◌∷◌, ◌++◌, map, refl, sym, ◌∙◌, ap, inl, inr, append_assoc}
use Rattle.std.specs.List.{list_any}
use Rattle.std.proofs.lemmas.Bool.{or_parts, eq-eqb, or_from, or_left, or_right}
use Rattle.std.proofs.lemmas.List.{append-nil}
use Rattle.std.proofs.lemmas.Slice.Eq.{bytes_eq-Decides}
use Rattle.std.specs.Str.{bytes_eq}
use Rattle.std.proofs.lemmas.List.Folds.{list_any-append}
use Rattle.t1_parts.specs.declared.item.Item.{Item}
use Rattle.t1_parts.specs.declared.item.Item.TheVariants.{Plain, Section, Subr, Glyph}
use Rattle.t1_text.specs.Tokens.{tokens}
use Rattle.t1_parts.specs.Sections.{is_subrs_line, is_glyphs_line}
use Rattle.t1_parts.specs.Entries.{is_subr, is_glyph, opens_subr, opens_glyph}
use Rattle.t1_parts.specs.Counts.{raised_item}
use Rattle.t1_source.specs.WellFormed.{opens_entry, Stands, Stand}

-- the second items have the section lines of the first, and no number or name that is new and that one of the
-- items after them has
pub record Serves (e f items : List Item) : Type 0 where
  pub subrs : list_any is_subrs_line e ≡ list_any is_subrs_line f
  pub glyphs : list_any is_glyphs_line e ≡ list_any is_glyphs_line f
  pub number : (n : ℕ) → list_any (is_subr n) items ≡ true → list_any (is_subr n) e ≡ false → list_any (is_subr n) f ≡ false
  pub name : (g : List ℕ) → list_any (is_glyph g) items ≡ true → list_any (is_glyph g) e ≡ false → list_any (is_glyph g) f ≡ false

-- a test that fails of items and a further one
pub none_further : (test : Item → Bool) (e : List Item) (i : Item) → list_any test (e ++ i ∷ []) ≡ false → (list_any test e ≡ false) × (test i ≡ false)
none_further test e i h =
    let parts = or_parts (list_any test e) (test i || false) (sym (list_any-append test e (i ∷ [])) ∙ h) in
    (parts.0, (or_parts (test i) false parts.1).0)

pub none_both : (test : Item → Bool) (e f : List Item) → list_any test e ≡ false → list_any test f ≡ false → list_any test (e ++ f) ≡ false
none_both test e f p q = list_any-append test e f ∙ or_from (list_any test e) (list_any test f) p q

further : (test : Item → Bool) (e f items : List Item) (i j : Item) → test i ≡ test j
    → (list_any test (i ∷ items) ≡ true → list_any test e ≡ false → list_any test f ≡ false) → list_any test items ≡ true → list_any test (e ++ i ∷ []) ≡ false → list_any test (f ++ j ∷ []) ≡ false
further test e f items i j same serves on none =
    let parts = none_further test e i none in
    none_both test f (j ∷ []) (serves (or_right (test i) (list_any test items) on) parts.0) (or_from (test j) false (sym same ∙ parts.1) refl)

same_further : (test : Item → Bool) (e f : List Item) (i j : Item) → test i ≡ test j → list_any test e ≡ list_any test f → list_any test (e ++ i ∷ []) ≡ list_any test (f ++ j ∷ [])
same_further test e f i j same h =
    list_any-append test e (i ∷ []) ∙ ap (λ b. b || (test i || false)) h ∙ ap (λ b. list_any test f || (b || false)) same ∙ sym (list_any-append test f (j ∷ []))

-- a further item, and one of the same kind and key
pub serves_further : (e f items : List Item) (i j : Item) → is_subrs_line i ≡ is_subrs_line j → is_glyphs_line i ≡ is_glyphs_line j → ((n : ℕ) → is_subr n i ≡ is_subr n j) → ((g : List ℕ) → is_glyph g i ≡ is_glyph g j)
    → Serves e f (i ∷ items) → Serves (e ++ i ∷ []) (f ++ j ∷ []) items
serves_further e f items i j a b c d s =
    record {
      subrs = same_further is_subrs_line e f i j a s.subrs;
      glyphs = same_further is_glyphs_line e f i j b s.glyphs;
      number = λ n. further (is_subr n) e f items i j (c n) (s.number n);
      name = λ g. further (is_glyph g) e f items i j (d g) (s.name g);
    }

opens_same : (e f : List Item) (l : List ℕ) → list_any is_subrs_line e ≡ list_any is_subrs_line f → list_any is_glyphs_line e ≡ list_any is_glyphs_line f → opens_entry e l ≡ opens_entry f l
opens_same e f l p q =
    ap (λ b. if b then is_some (opens_glyph (tokens l)) else (list_any is_subrs_line e && is_some (opens_subr (tokens l)))) q
    ∙ ap (λ b. if list_any is_glyphs_line f then is_some (opens_glyph (tokens l)) else (b && is_some (opens_subr (tokens l)))) p

own_number : (n : ℕ) (items : List Item) (ws : List (List ℕ)) (closing : List ℕ) → list_any (is_subr n) (Subr n ws closing ∷ items) ≡ true
own_number n items ws closing = or_left (n == n) (list_any (is_subr n) items) (eq-eqb n n refl)

own_name : (g : List ℕ) (items : List Item) (ws : List (List ℕ)) (closing : List ℕ) → list_any (is_glyph g) (Glyph g ws closing ∷ items) ≡ true
own_name g items ws closing = or_left (bytes_eq g g) (list_any (is_glyph g) items) ((bytes_eq-Decides g g).1 refl)

-- an item stands after the second items too
pub stands_serves : (e f items : List Item) (i : Item) → Serves e f (i ∷ items) → Stands e i → Stands f i
stands_serves e f items (Plain l) s h = (h.0, sym (opens_same e f l s.subrs s.glyphs) ∙ h.1, h.2, h.3)
stands_serves e f items (Section before n after) s h =
    let l = before ++ 48 ∷ after in (
      h.0,
      sym (opens_same e f l s.subrs s.glyphs) ∙ h.1,
      (
        sym s.glyphs ∙ h.2.0,
        elim h.2.1 [
          | inl subrs ↦ inl (subrs.0, subrs.1, sym s.subrs ∙ subrs.2)
          | inr glyphs ↦ inr glyphs
        ],
      ),
    )
stands_serves e f items (Subr n ws closing) s h = (sym s.glyphs ∙ h.0, sym s.subrs ∙ h.1, s.number n (own_number n items ws closing) h.2, h.3, h.4)
stands_serves e f items (Glyph g ws closing) s h = (sym s.glyphs ∙ h.0, s.name g (own_name g items ws closing) h.1, h.2, h.3)

-- and so do all
pub stand_serves : (e f items : List Item) → Serves e f items → Stand e items → Stand f items
stand_serves e f [] s h = tt
stand_serves e f (i ∷ items) s h =
    (stands_serves e f items i s h.0, stand_serves (e ++ i ∷ []) (f ++ i ∷ []) items (serves_further e f items i i refl refl (λ n. refl) (λ g. refl) s) h.1)

-- items before and after others
pub stand_front : (e a b : List Item) → Stand e (a ++ b) → Stand e a
stand_front e [] b h = tt
stand_front e (i ∷ a) b h = (h.0, stand_front (e ++ i ∷ []) a b h.1)

pub stand_back : (e a b : List Item) → Stand e (a ++ b) → Stand (e ++ a) b
stand_back e [] b h = rw (append-nil e) h
stand_back e (i ∷ a) b h = let more = stand_back (e ++ i ∷ []) a b h.1 in rw (append_assoc e (i ∷ []) a) at more

pub stand_both : (e a b : List Item) → Stand e a → Stand (e ++ a) b → Stand e (a ++ b)
stand_both e [] b h k = rw (append-nil e) at k
stand_both e (i ∷ a) b h k = (h.0, stand_both (e ++ i ∷ []) a b h.1 (rw (append_assoc e (i ∷ []) a) k))

-- raised counts
pub raised_test : (test : Item → Bool) (s g : ℕ) → ((i : Item) → test i ≡ test (raised_item s g i)) → (items : List Item) → list_any test items ≡ list_any test (map (raised_item s g) items)
raised_test test s g same [] = refl
raised_test test s g same (i ∷ items) = ap (λ b. b || list_any test items) (same i) ∙ ap (λ b. test (raised_item s g i) || b) (raised_test test s g same items)

pub raised_subrs : (s g : ℕ) (i : Item) → is_subrs_line i ≡ is_subrs_line (raised_item s g i)
raised_subrs s g (Plain l) = refl
raised_subrs s g (Section before n after) = refl
raised_subrs s g (Subr n ws closing) = refl
raised_subrs s g (Glyph h ws closing) = refl

pub raised_glyphs : (s g : ℕ) (i : Item) → is_glyphs_line i ≡ is_glyphs_line (raised_item s g i)
raised_glyphs s g (Plain l) = refl
raised_glyphs s g (Section before n after) = refl
raised_glyphs s g (Subr n ws closing) = refl
raised_glyphs s g (Glyph h ws closing) = refl

raised_number : (s g n : ℕ) (i : Item) → is_subr n i ≡ is_subr n (raised_item s g i)
raised_number s g n (Plain l) = refl
raised_number s g n (Section before m after) = refl
raised_number s g n (Subr m ws closing) = refl
raised_number s g n (Glyph h ws closing) = refl

raised_name : (s g : ℕ) (name : List ℕ) (i : Item) → is_glyph name i ≡ is_glyph name (raised_item s g i)
raised_name s g name (Plain l) = refl
raised_name s g name (Section before m after) = refl
raised_name s g name (Subr m ws closing) = refl
raised_name s g name (Glyph h ws closing) = refl

stands_raised : (s g : ℕ) (e : List Item) (i : Item) → Stands e i → Stands e (raised_item s g i)
stands_raised s g e (Plain l) h = h
stands_raised s g e (Section before n after) h = h
stands_raised s g e (Subr n ws closing) h = h
stands_raised s g e (Glyph name ws closing) h = h

-- items stand with raised counts too
pub stand_raised : (s g : ℕ) (e f items : List Item) → Serves e f items → Stand e items → Stand f (map (raised_item s g) items)
stand_raised s g e f [] v h = tt
stand_raised s g e f (i ∷ items) v h =
    let j = raised_item s g i in (
      stands_raised s g f i (stands_serves e f items i v h.0),
      stand_raised s g (e ++ i ∷ []) (f ++ j ∷ []) items (serves_further e f items i j (raised_subrs s g i) (raised_glyphs s g i) (λ n. raised_number s g n i) (λ name. raised_name s g name i) v) h.1,
    )

pub serves_itself : (e items : List Item) → Serves e e items
serves_itself e items = record { subrs = refl; glyphs = refl; number = λ n on none. none; name = λ g on none. none }
