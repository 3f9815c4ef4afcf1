-- Plain lines that say nothing of lenIV, which bodies, names and counts pass over.
use Rattle.std.proofs.Common.{◌≡◌, ◌∙◌, ◌||◌, ◌&&◌, ℕ, true, false, List, [], ◌∷◌, ◌++◌, filter, inl, inr, refl, sym, ap, subst, Result}
use Rattle.std.specs.List.{list_all, list_any}
use Rattle.std.specs.Option.{option_or}
use Rattle.std.proofs.lemmas.Bool.{cases_Bool}
use Rattle.t1_frac.specs.declared.fault.Fault.{Fault}
use Rattle.t1_frac.specs.Outcome.{◌>>=◌}
use Rattle.t1_parts.specs.declared.item.Item.{Item}
use Rattle.t1_parts.specs.declared.item.Item.TheVariants.{Plain, Section, Subr, Glyph}
use Rattle.t1_parts.specs.Stretches.{line_says, stands_alone}
use Rattle.t1_source.specs.Editing.{is_subr_entry}
use Rattle.t1_source.specs.WellFormed.{is_counted}
use Rattle.t1_font.specs.Bodies.{bodies_check, body_check, glyph_among, glyph_in, subr_among, subr_in}
use Rattle.t1_font.specs.Glyphs.{glyph_names, name_in}
use Rattle.t1_font.specs.InTurn.{SubrsStandFirst}
use Rattle.t1_font.proofs.SubrsFirst.{first-more, later}

-- what plain lines add nothing to is the same without those that don't stand alone
pub same_alone : {X : Type 0} (f : List Item → X) → ((l : List ℕ) (items : List Item) → f (Plain l ∷ items) ≡ f items)
    → ((item : Item) (xs ys : List Item) → f xs ≡ f ys → f (item ∷ xs) ≡ f (item ∷ ys))
    → (items : List Item) → f (filter stands_alone items) ≡ f items
unfolding stands_alone
same_alone f plain more [] = refl
same_alone f plain more (Plain l ∷ items) =
    let left = same_alone f plain more items in
    elim (cases_Bool (line_says l)) [
      | inl says ↦ rw says (more (Plain l) (filter stands_alone items) items left)
      | inr silent ↦ rw silent (left ∙ sym (plain l items))
    ]
same_alone f plain more (Section before count after ∷ items) = more (Section before count after) (filter stands_alone items) items (same_alone f plain more items)
same_alone f plain more (Subr number words closing ∷ items) = more (Subr number words closing) (filter stands_alone items) items (same_alone f plain more items)
same_alone f plain more (Glyph name words closing ∷ items) = more (Glyph name words closing) (filter stands_alone items) items (same_alone f plain more items)

pub names_alone : (items : List Item) → glyph_names (filter stands_alone items) ≡ glyph_names items
names_alone items = same_alone glyph_names (λ l is. refl) (λ item xs ys e. ap (λ names. name_in item ++ names) e) items

pub checks_alone : (items : List Item) → bodies_check (filter stands_alone items) ≡ bodies_check items
checks_alone items = same_alone bodies_check (λ l is. refl) (λ item xs ys e. ap (λ (r : Result (Unit {0}) Fault). body_check item >>= (λ _. r)) e) items

pub subrs_alone : (n : ℕ) (items : List Item) → subr_among (filter stands_alone items) n ≡ subr_among items n
subrs_alone n items = same_alone (λ is. subr_among is n) (λ l is. refl) (λ item xs ys e. ap (λ r. option_or (subr_in item n) r) e) items

pub glyphs_alone : (g : List ℕ) (items : List Item) → glyph_among (filter stands_alone items) g ≡ glyph_among items g
glyphs_alone g items = same_alone (λ is. glyph_among is g) (λ l is. refl) (λ item xs ys e. ap (λ r. option_or (glyph_in item g) r) e) items

pub counted_alone : (items : List Item) → list_all is_counted (filter stands_alone items) ≡ list_all is_counted items
counted_alone items = same_alone (list_all is_counted) (λ l is. refl) (λ item xs ys e. ap (λ b. is_counted item && b) e) items

entries-alone : (items : List Item) → list_any is_subr_entry (filter stands_alone items) ≡ list_any is_subr_entry items
entries-alone items = same_alone (list_any is_subr_entry) (λ l is. refl) (λ item xs ys e. ap (λ b. is_subr_entry item || b) e) items

pub first_alone : (items : List Item) → SubrsStandFirst items → SubrsStandFirst (filter stands_alone items)
first_alone [] h = h
first_alone (item ∷ items) h =
    let left = first_alone items (later item items h) in
    elim (cases_Bool (stands_alone item)) [
      | inl alone ↦
          subst SubrsStandFirst (sym (kept item items alone))
          (first-more item (filter stands_alone items) (λ g words closing is. entries-alone items ∙ h [] items g words closing (ap (λ (x : Item). x ∷ items) is)) left)
      | inr silent ↦ subst SubrsStandFirst (sym (passed item items silent)) left
    ]
  where
    kept : (item : Item) (items : List Item) → stands_alone item ≡ true → filter stands_alone (item ∷ items) ≡ item ∷ filter stands_alone items
    kept item items alone = rw alone refl

    passed : (item : Item) (items : List Item) → stands_alone item ≡ false → filter stands_alone (item ∷ items) ≡ filter stands_alone items
    passed item items silent = rw silent refl
