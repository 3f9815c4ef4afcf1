-- The names of a source's glyphs, each once.
use Rattle.std.proofs.Common.{◌≡◌, ℕ, true, false, List, [], ◌∷◌, ◌++◌, refl, sym, ◌∙◌, ap, subst, inl, inr}
use Rattle.std.specs.Prelude.{◌||◌}
use Rattle.std.specs.List.{list_any}
use Rattle.std.specs.Str.{bytes_eq}
use Rattle.std.proofs.Math.Bool.{or-true}
use Rattle.std.proofs.lemmas.Bool.{cases_Bool}
use Rattle.std.proofs.lemmas.List.Folds.{list_any-append}
use Rattle.std.proofs.lemmas.Slice.Eq.{bytes_eq-Decides}
use Rattle.t1_parts.specs.declared.item.Item.{Item}
use Rattle.t1_parts.specs.declared.item.Item.TheVariants.{Plain, Section, Subr, Glyph}
use Rattle.t1_parts.specs.Entries.{is_glyph}
use Rattle.t1_source.specs.WellFormed.{Stand}
use Rattle.t1_font.specs.Glyphs.{glyph_names}
use Rattle.t1_cache.specs.Laws.{AreDistinct, DistinctLaw}

-- a glyph stays among the items with one more
still : (g : List ℕ) (earlier : List Item) (i : Item) → list_any (is_glyph g) earlier ≡ true → list_any (is_glyph g) (earlier ++ i ∷ []) ≡ true
still g earlier i there = list_any-append (is_glyph g) earlier (i ∷ []) ∙ ap (λ b. b || list_any (is_glyph g) (i ∷ [])) there

-- and one that is put last is among them
last : (g : List ℕ) (earlier : List Item) (ws : List (List ℕ)) (closing : List ℕ) → list_any (is_glyph g) (earlier ++ Glyph g ws closing ∷ []) ≡ true
last g earlier ws closing =
    list_any-append (is_glyph g) earlier (Glyph g ws closing ∷ [])
    ∙ ap (λ b. list_any (is_glyph g) earlier || (b || false)) ((bytes_eq-Decides g g).1 refl)
    ∙ or-true (list_any (is_glyph g) earlier)

-- no glyph after these bears a name that one of these does
unlike : (g : List ℕ) (earlier is : List Item) → list_any (is_glyph g) earlier ≡ true → Stand earlier is → list_any (bytes_eq g) (glyph_names is) ≡ false
unlike g earlier [] there h = refl
unlike g earlier (Plain l ∷ is) there h = unlike g (earlier ++ Plain l ∷ []) is (still g earlier (Plain l) there) h.1
unlike g earlier (Section b n a ∷ is) there h = unlike g (earlier ++ Section b n a ∷ []) is (still g earlier (Section b n a) there) h.1
unlike g earlier (Subr n ws c ∷ is) there h = unlike g (earlier ++ Subr n ws c ∷ []) is (still g earlier (Subr n ws c) there) h.1
unlike g earlier (Glyph x ws c ∷ is) there h =
    ap (λ b. b || list_any (bytes_eq g) (glyph_names is)) other
    ∙ unlike g (earlier ++ Glyph x ws c ∷ []) is (still g earlier (Glyph x ws c) there) h.1
  where
    other : bytes_eq g x ≡ false
    other =
        elim (cases_Bool (bytes_eq g x)) [
          | inl on ↦
              let never : true ≡ false = sym there ∙ ap (λ y. list_any (is_glyph y) earlier) ((bytes_eq-Decides g x).0 on) ∙ h.0.1 in
              absurd (cc)
          | inr off ↦ off
        ]

distinct-after : (earlier is : List Item) → Stand earlier is → AreDistinct (glyph_names is)
distinct-after earlier [] h = tt
distinct-after earlier (Plain l ∷ is) h = distinct-after (earlier ++ Plain l ∷ []) is h.1
distinct-after earlier (Section b n a ∷ is) h = distinct-after (earlier ++ Section b n a ∷ []) is h.1
distinct-after earlier (Subr n ws c ∷ is) h = distinct-after (earlier ++ Subr n ws c ∷ []) is h.1
distinct-after earlier (Glyph g ws c ∷ is) h = (
  unlike g (earlier ++ Glyph g ws c ∷ []) is (last g earlier ws c) h.1,
  distinct-after (earlier ++ Glyph g ws c ∷ []) is h.1,
)

-- a plain line has no name
names-plain : (is : List Item) (l : List ℕ) → glyph_names (is ++ Plain l ∷ []) ≡ glyph_names is
names-plain [] l = refl
names-plain (Plain x ∷ is) l = names-plain is l
names-plain (Section b n a ∷ is) l = names-plain is l
names-plain (Subr n ws c ∷ is) l = names-plain is l
names-plain (Glyph g ws c ∷ is) l = ap (λ names. g ∷ names) (names-plain is l)

pub names_distinct : DistinctLaw
names_distinct s well =
    let p = well.items in
    subst AreDistinct (sym (ap glyph_names p.whole ∙ names-plain p.inner p.closefile)) (distinct-after [] p.inner p.stand)
