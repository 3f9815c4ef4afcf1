-- In a source that is kept the Subrs stand before the glyphs.
use Rattle.std.proofs.Common.{◌≡◌, true, false, ◌||◌, ℕ, List, [], ◌∷◌, ◌++◌, refl, sym, ◌∙◌}
use Rattle.std.specs.List.{list_any}
use Rattle.std.proofs.lemmas.List.Folds.{list_any-append}
use Rattle.std.proofs.lemmas.Bool.{both_ways, or_left}
use Rattle.t1_parts.specs.declared.item.Item.{Item}
use Rattle.t1_parts.specs.declared.item.Item.TheVariants.{Plain, Section, Subr, Glyph}
use Rattle.t1_parts.specs.Sections.{is_glyphs_line}
use Rattle.t1_source.specs.Editing.{is_subr_entry}
use Rattle.t1_source.specs.WellFormed.{Stand, IsPrivate}
use Rattle.t1_source.proofs.StandLaws.{stand_back}
use Rattle.t1_source.proofs.ItemPlaceLaws.{before_last}
use Rattle.t1_source.proofs.WellFormedEditLaws.{is_not_plain}

still : (e : List Item) (i : Item) → list_any is_glyphs_line e ≡ true → list_any is_glyphs_line (e ++ i ∷ []) ≡ true
still e i on = list_any-append is_glyphs_line e (i ∷ []) ∙ or_left (list_any is_glyphs_line e) (is_glyphs_line i || false) on

-- after the CharStrings line
no_subr : (e items : List Item) → Stand e items → list_any is_glyphs_line e ≡ true → list_any is_subr_entry items ≡ false
no_subr e [] h on = refl
no_subr e (Plain l ∷ items) h on = no_subr (e ++ Plain l ∷ []) items h.1 (still e (Plain l) on)
no_subr e (Section before n after ∷ items) h on = no_subr (e ++ Section before n after ∷ []) items h.1 (still e (Section before n after) on)
no_subr e (Subr n ws closing ∷ items) h on = absurd (both_ways (list_any is_glyphs_line e) h.0.0 on)
no_subr e (Glyph g ws closing ∷ items) h on = no_subr (e ++ Glyph g ws closing ∷ []) items h.1 (still e (Glyph g ws closing) on)

no_subr_last : (items : List Item) (last : List ℕ) → list_any is_subr_entry items ≡ false → list_any is_subr_entry (items ++ Plain last ∷ []) ≡ false
no_subr_last items last h = list_any-append is_subr_entry items (Plain last ∷ []) ∙ (rw h refl)

-- no Subr stands after a glyph
pub subrs_first : (items a : List Item) (g : List ℕ) (ws : List (List ℕ)) (closing : List ℕ) (b : List Item) → IsPrivate items → items ≡ a ++ Glyph g ws closing ∷ b → list_any is_subr_entry b ≡ false
subrs_first items a g ws closing b p whole =
    let x = Glyph g ws closing in
    let r = before_last is_not_plain p.inner (Plain p.closefile) a x b refl refl (sym p.whole ∙ whole) in
    let stand : Stand [] (a ++ x ∷ r.0) = rw r.2 at p.stand in
    let back = stand_back [] a (x ∷ r.0) stand in
    rw r.1 (no_subr_last r.0 p.closefile (no_subr (a ++ x ∷ []) r.0 back.1 (still a x back.0.0)))
