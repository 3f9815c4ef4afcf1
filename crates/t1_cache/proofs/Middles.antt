-- Entries put in, taken out or replaced change a source at their keys and nowhere else.
use Rattle.std.proofs.Common.{◌≡◌, ℕ, true, cond, not, List, [], ◌∷◌, ◌++◌, map, filter, refl, sym, ◌∙◌, ap, inl, inr, None}
use Rattle.std.specs.Prelude.{◌==◌}
use Rattle.std.specs.List.{AllByRecursion}
use Rattle.std.specs.Option.{option_or}
use Rattle.std.specs.Str.{bytes_eq}
use Rattle.std.proofs.lemmas.Bool.{cases_Bool, eqb-true, or_left, or_right}
use Rattle.std.proofs.lemmas.Slice.Eq.{bytes_eq-Decides}
use Rattle.t1_parts.specs.declared.item.Item.{Item}
use Rattle.t1_parts.specs.declared.item.Item.TheVariants as items
use Rattle.t1_parts.specs.Counts.{subrs_needed, glyphs_needed, raised_item}
use Rattle.t1_run.specs.Run.{Key, Subr, Glyph}
use Rattle.t1_run.specs.Footprint.{Includes, SameAt}
use Rattle.t1_font.specs.Bodies.{bodies, subr_in, glyph_in, subr_among, glyph_among}
use Rattle.t1_font.specs.Glyphs.{glyph_names}
use Rattle.t1_run.specs.Touched.{is_key_of, is_named}
use Rattle.t1_cache.specs.Laws.{IsKeyAmong, MiddleLaw}

subr-absent : (keys : List Key) (i : Item) (n : ℕ) → IsKeyAmong keys i → (Includes keys (Subr n) → ⊥) → subr_in i n ≡ None
subr-absent keys (items.Subr m words closing) n among other =
    elim (cases_Bool (n == m)) [
      | inl same ↦ absurd (other (rw (eqb-true n m same) among))
      | inr apart ↦ rw apart refl
    ]
subr-absent keys (items.Glyph g words closing) n among other = refl
subr-absent keys (items.Plain line) n among other = refl
subr-absent keys (items.Section before k after) n among other = refl

glyph-absent : (keys : List Key) (i : Item) (g : List ℕ) → IsKeyAmong keys i → (Includes keys (Glyph g) → ⊥) → glyph_in i g ≡ None
glyph-absent keys (items.Subr m words closing) g among other = refl
glyph-absent keys (items.Glyph h words closing) g among other =
    elim (cases_Bool (bytes_eq g h)) [
      | inl same ↦ absurd (other (rw ((bytes_eq-Decides g h).0 same) among))
      | inr apart ↦ rw apart refl
    ]
glyph-absent keys (items.Plain line) g among other = refl
glyph-absent keys (items.Section before k after) g among other = refl

-- items in the middle that have none of a key
subr-past : (n : ℕ) (xs b : List Item) → AllByRecursion (λ i. subr_in i n ≡ None) xs → subr_among (xs ++ b) n ≡ subr_among b n
subr-past n [] b h = refl
subr-past n (x ∷ xs) b h = ap (λ r. option_or r (subr_among (xs ++ b) n)) h.0 ∙ subr-past n xs b h.1

subr-middle : (n : ℕ) (a xs b : List Item) → AllByRecursion (λ i. subr_in i n ≡ None) xs → subr_among (a ++ (xs ++ b)) n ≡ subr_among (a ++ b) n
subr-middle n [] xs b h = subr-past n xs b h
subr-middle n (i ∷ a) xs b h = ap (option_or (subr_in i n)) (subr-middle n a xs b h)

glyph-past : (g : List ℕ) (xs b : List Item) → AllByRecursion (λ i. glyph_in i g ≡ None) xs → glyph_among (xs ++ b) g ≡ glyph_among b g
glyph-past g [] b h = refl
glyph-past g (x ∷ xs) b h = ap (λ r. option_or r (glyph_among (xs ++ b) g)) h.0 ∙ glyph-past g xs b h.1

glyph-middle : (g : List ℕ) (a xs b : List Item) → AllByRecursion (λ i. glyph_in i g ≡ None) xs → glyph_among (a ++ (xs ++ b)) g ≡ glyph_among (a ++ b) g
glyph-middle g [] xs b h = glyph-past g xs b h
glyph-middle g (i ∷ a) xs b h = ap (option_or (glyph_in i g)) (glyph-middle g a xs b h)

-- counts have no bodies and no names
pub subr-raised : (s g : ℕ) (items : List Item) (n : ℕ) → subr_among (map (raised_item s g) items) n ≡ subr_among items n
subr-raised s g [] n = refl
subr-raised s g (items.Plain l ∷ is) n = subr-raised s g is n
subr-raised s g (items.Section b k a ∷ is) n = subr-raised s g is n
subr-raised s g (items.Subr m ws c ∷ is) n = ap (option_or (subr_in (items.Subr m ws c) n)) (subr-raised s g is n)
subr-raised s g (items.Glyph h ws c ∷ is) n = subr-raised s g is n

pub glyph-raised : (s g : ℕ) (items : List Item) (n : List ℕ) → glyph_among (map (raised_item s g) items) n ≡ glyph_among items n
glyph-raised s g [] n = refl
glyph-raised s g (items.Plain l ∷ is) n = glyph-raised s g is n
glyph-raised s g (items.Section b k a ∷ is) n = glyph-raised s g is n
glyph-raised s g (items.Subr m ws c ∷ is) n = glyph-raised s g is n
glyph-raised s g (items.Glyph h ws c ∷ is) n = ap (option_or (glyph_in (items.Glyph h ws c) n)) (glyph-raised s g is n)

pub names-raised : (s g : ℕ) (items : List Item) → glyph_names (map (raised_item s g) items) ≡ glyph_names items
names-raised s g [] = refl
names-raised s g (items.Plain l ∷ is) = names-raised s g is
names-raised s g (items.Section b k a ∷ is) = names-raised s g is
names-raised s g (items.Subr m ws c ∷ is) = names-raised s g is
names-raised s g (items.Glyph h ws c ∷ is) = ap (λ t. h ∷ t) (names-raised s g is)

-- ---- the other glyphs, in their order

named-here : (keys : List Key) (g : List ℕ) → Includes keys (Glyph g) → is_named keys g ≡ true
named-here [] g i = absurd i
named-here (k ∷ keys) g (inl e) = rw e (or_left (bytes_eq g g) (is_named keys g) ((bytes_eq-Decides g g).1 refl))
named-here (k ∷ keys) g (inr i) = or_right (is_key_of g k) (is_named keys g) (named-here keys g i)

abbrev others : List Key → List Item → List (List ℕ)
others keys is = filter (λ g. not (is_named keys g)) (glyph_names is)

others-same : (keys : List Key) (i : Item) (xs ys : List Item) → others keys xs ≡ others keys ys → others keys (i ∷ xs) ≡ others keys (i ∷ ys)
others-same keys (items.Plain l) xs ys e = e
others-same keys (items.Section b k a) xs ys e = e
others-same keys (items.Subr m ws c) xs ys e = e
others-same keys (items.Glyph h ws c) xs ys e = ap (λ t. cond (not (is_named keys h)) (h ∷ t) t) e

others-past : (keys : List Key) (xs b : List Item) → AllByRecursion (IsKeyAmong keys) xs → others keys (xs ++ b) ≡ others keys b
others-past keys [] b h = refl
others-past keys (items.Plain l ∷ xs) b h = others-past keys xs b h.1
others-past keys (items.Section c k a ∷ xs) b h = others-past keys xs b h.1
others-past keys (items.Subr m ws c ∷ xs) b h = others-past keys xs b h.1
others-past keys (items.Glyph g ws c ∷ xs) b h = rw (named-here keys g h.0) (others-past keys xs b h.1)

others-middle : (keys : List Key) (a xs b : List Item) → AllByRecursion (IsKeyAmong keys) xs → others keys (a ++ (xs ++ b)) ≡ others keys (a ++ b)
others-middle keys [] xs b h = others-past keys xs b h
others-middle keys (i ∷ a) xs b h = others-same keys i (a ++ (xs ++ b)) (a ++ b) (others-middle keys a xs b h)

-- ---- sources

all-subrs : (keys : List Key) (n : ℕ) (xs : List Item) → (Includes keys (Subr n) → ⊥) → AllByRecursion (IsKeyAmong keys) xs → AllByRecursion (λ i. subr_in i n ≡ None) xs
all-subrs keys n [] other h = tt
all-subrs keys n (x ∷ xs) other h = (subr-absent keys x n h.0 other, all-subrs keys n xs other h.1)

all-glyphs : (keys : List Key) (g : List ℕ) (xs : List Item) → (Includes keys (Glyph g) → ⊥) → AllByRecursion (IsKeyAmong keys) xs → AllByRecursion (λ i. glyph_in i g ≡ None) xs
all-glyphs keys g [] other h = tt
all-glyphs keys g (x ∷ xs) other h = (glyph-absent keys x g h.0 other, all-glyphs keys g xs other h.1)

-- entries of these keys in the place of others of these keys
pub edited_middle : MiddleLaw
edited_middle keys old new a xs ys b hx hy was is = record { bodies = record { same = same }; order = order } where
  made : List Item
  made = a ++ (ys ++ b)

  s : ℕ
  s = subrs_needed made

  g : ℕ
  g = glyphs_needed made

  same : (k : Key) → (Includes keys k → ⊥) → SameAt (bodies old.items) (bodies new.items) k
  same (Subr n) other =
      ap (λ t. subr_among t n) was ∙ subr-middle n a xs b (all-subrs keys n xs other hx)
      ∙ sym (ap (λ t. subr_among t n) is ∙ subr-raised s g made n ∙ subr-middle n a ys b (all-subrs keys n ys other hy))
  same (Glyph h) other =
      ap (λ t. glyph_among t h) was ∙ glyph-middle h a xs b (all-glyphs keys h xs other hx)
      ∙ sym (ap (λ t. glyph_among t h) is ∙ glyph-raised s g made h ∙ glyph-middle h a ys b (all-glyphs keys h ys other hy))

  order : others keys old.items ≡ others keys new.items
  order =
      ap (others keys) was ∙ others-middle keys a xs b hx
      ∙ sym (ap (others keys) is ∙ ap (filter (λ n. not (is_named keys n))) (names-raised s g made) ∙ others-middle keys a ys b hy)
