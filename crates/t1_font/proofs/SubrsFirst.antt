-- The first fault of bodies, over Subrs and then over glyphs.
use Rattle.std.proofs.Common.{◌≡◌, ℕ, false, List, [], ◌∷◌, ◌++◌, filter, Result, Ok, Err, refl, ap, sym, subst, ◌∙◌}
use Rattle.std.specs.List.{list_any}
use Rattle.t1_frac.specs.declared.fault.Fault.{Fault}
use Rattle.t1_frac.specs.Outcome.{◌>>=◌}
use Rattle.t1_parts.specs.declared.item.Item.{Item}
use Rattle.t1_parts.specs.declared.item.Item.TheVariants.{Plain, Section, Subr, Glyph}
use Rattle.t1_parts.specs.Counts.{is_glyph_entry}
use Rattle.t1_source.specs.Editing.{is_subr_entry}
use Rattle.t1_font.specs.Bodies.{bodies_check, body_check}
use Rattle.t1_font.specs.InTurn.{SubrsStandFirst}

pub later : (item : Item) (items : List Item) → SubrsStandFirst (item ∷ items) → SubrsStandFirst items
later item items h a b g ws closing e = h (item ∷ a) b g ws closing (ap (λ (l : List Item). item ∷ l) e)

-- with an item before them that has no Subr after it, where it is a glyph
pub first-more : (item : Item) (items : List Item)
    → ((g : List ℕ) (ws : List (List ℕ)) (closing : List ℕ) → item ≡ Glyph g ws closing → list_any is_subr_entry items ≡ false)
    → SubrsStandFirst items → SubrsStandFirst (item ∷ items)
first-more item items here after [] b g ws closing e =
    let is : item ≡ Glyph g ws closing = cc in
    let rest : items ≡ b = cc in
    subst (λ l. list_any is_subr_entry l ≡ false) rest (here g ws closing is)
first-more item items here after (x ∷ a) b g ws closing e =
    let rest : items ≡ a ++ Glyph g ws closing ∷ b = cc in
    after a b g ws closing rest

one-by-one : (a b c : Result (Unit {0}) Fault) → ◌≡◌ {A = Result (Unit {0}) Fault} (a >>= (λ x. b >>= (λ y. c))) ((a >>= (λ x. b)) >>= (λ y. c))
one-by-one (Ok x) b c = refl
one-by-one (Err fault) b c = refl

no-subrs : (items : List Item) → list_any is_subr_entry items ≡ false → filter is_subr_entry items ≡ []
no-subrs [] h = refl
no-subrs (Plain line ∷ items) h = no-subrs items h
no-subrs (Section before count after ∷ items) h = no-subrs items h
no-subrs (Subr number words closing ∷ items) h = absurd (cc)
no-subrs (Glyph name words closing ∷ items) h = no-subrs items h

glyphs-alone : (items : List Item) → list_any is_subr_entry items ≡ false → bodies_check items ≡ bodies_check (filter is_glyph_entry items)
glyphs-alone [] h = refl
glyphs-alone (Plain line ∷ items) h = glyphs-alone items h
glyphs-alone (Section before count after ∷ items) h = glyphs-alone items h
glyphs-alone (Subr number words closing ∷ items) h = absurd (cc)
glyphs-alone (Glyph name words closing ∷ items) h =
    ap (λ (r : Result (Unit {0}) Fault). body_check (Glyph name words closing) >>= (λ x. r)) (glyphs-alone items h)

pub subrs-first : (items : List Item) → SubrsStandFirst items
    → bodies_check items ≡ (bodies_check (filter is_subr_entry items) >>= (λ checked. bodies_check (filter is_glyph_entry items)))
subrs-first [] h = refl
subrs-first (Plain line ∷ items) h = subrs-first items (later (Plain line) items h)
subrs-first (Section before count after ∷ items) h = subrs-first items (later (Section before count after) items h)
subrs-first (Subr number words closing ∷ items) h =
    ap (λ (r : Result (Unit {0}) Fault). body_check (Subr number words closing) >>= (λ x. r)) (subrs-first items (later (Subr number words closing) items h))
    ∙ one-by-one (body_check (Subr number words closing)) (bodies_check (filter is_subr_entry items)) (bodies_check (filter is_glyph_entry items))
subrs-first (Glyph name words closing ∷ items) h =
    let none = h [] items name words closing refl in
    ap (λ (r : Result (Unit {0}) Fault). body_check (Glyph name words closing) >>= (λ x. r)) (glyphs-alone items none)
    ∙ sym (ap (λ (l : List Item). bodies_check l >>= (λ x. bodies_check (Glyph name words closing ∷ filter is_glyph_entry items))) (no-subrs items none))
