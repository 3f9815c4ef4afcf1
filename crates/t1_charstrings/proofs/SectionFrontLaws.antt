-- Items behind which no section line stands.
use Rattle.std.proofs.Common.{◌≡◌, ◌++◌, ℕ, zero, suc, max, arith, Bool, cond, true, false, List, [], ◌∷◌, filter, length, take, drop, refl, sym, ◌∙◌, ap, Ok, Err}
use Rattle.std.specs.Prelude.{◌&&◌}
use Rattle.std.specs.List.{list_all, list_any}
use Rattle.t1_frac.specs.declared.fault.Code.TheVariants.{F23}
use Rattle.t1_frac.specs.declared.fault.Place.TheVariants.{Nowhere}
use Rattle.t1_frac.specs.Outcome.{fault_at}
use Rattle.t1_parts.specs.declared.item.Item.{Item}
use Rattle.t1_parts.specs.declared.item.Item.TheVariants.{Plain, Section, Subr, Glyph}
use Rattle.t1_parts.specs.Counts.{raised_item}
use Rattle.t1_parts.specs.EntryKeys.{is_section}
use Rattle.t1_parts.specs.Sections.{is_glyphs_line}
use Rattle.t1_parts.specs.Stretches.{stands_alone}
use Rattle.t1_source.specs.WellFormed.{is_counted}
use Rattle.t1_font.specs.Assembly.{counts_check}
use Rattle.t1_charstrings.specs.Raising.{is_raised_counted, raised_check, raised_text}
use Rattle.t1_charstrings.specs.Sums.{section_line, section_lines_text}
use Rattle.t1_charstrings.proofs.AloneLaws.{sections_alone, raised_alone}

-- items without a section line
no_lines : (items : List Item) → list_any is_section items ≡ false → section_lines_text items ≡ []
no_lines [] h = refl
no_lines (Plain l ∷ items) h = no_lines items h
no_lines (Section before n after ∷ items) h = absurd (cc)
no_lines (Subr n ws closing ∷ items) h = no_lines items h
no_lines (Glyph g ws closing ∷ items) h = no_lines items h

no_raised : (subrs glyphs : ℕ) (items : List Item) → list_any is_section items ≡ false → raised_text subrs glyphs items ≡ []
no_raised subrs glyphs [] h = refl
no_raised subrs glyphs (Plain l ∷ items) h = no_raised subrs glyphs items h
no_raised subrs glyphs (Section before n after ∷ items) h = absurd (cc)
no_raised subrs glyphs (Subr n ws closing ∷ items) h = no_raised subrs glyphs items h
no_raised subrs glyphs (Glyph g ws closing ∷ items) h = no_raised subrs glyphs items h

no_counted : (subrs glyphs : ℕ) (items : List Item) → list_any is_section items ≡ false → list_all (is_raised_counted subrs glyphs) items ≡ true
no_counted subrs glyphs [] h = refl
no_counted subrs glyphs (Plain l ∷ items) h = no_counted subrs glyphs items h
no_counted subrs glyphs (Section before n after ∷ items) h = absurd (cc)
no_counted subrs glyphs (Subr n ws closing ∷ items) h = no_counted subrs glyphs items h
no_counted subrs glyphs (Glyph g ws closing ∷ items) h = no_counted subrs glyphs items h

-- what the items through a place have, all items have
front_lines : (n : ℕ) (items : List Item) → list_any is_section (drop n items) ≡ false → section_lines_text (take n items) ≡ section_lines_text items
front_lines zero items h = sym (no_lines items h)
front_lines (suc n) [] h = refl
front_lines (suc n) (i ∷ items) h = ap (λ t. section_line i ++ t) (front_lines n items h)

front_raised : (subrs glyphs n : ℕ) (items : List Item) → list_any is_section (drop n items) ≡ false → raised_text subrs glyphs (take n items) ≡ raised_text subrs glyphs items
front_raised subrs glyphs zero items h = sym (no_raised subrs glyphs items h)
front_raised subrs glyphs (suc n) [] h = refl
front_raised subrs glyphs (suc n) (i ∷ items) h = ap (λ t. section_line (raised_item subrs glyphs i) ++ t) (front_raised subrs glyphs n items h)

front_counted : (subrs glyphs n : ℕ) (items : List Item) → list_any is_section (drop n items) ≡ false → list_all (is_raised_counted subrs glyphs) (take n items) ≡ list_all (is_raised_counted subrs glyphs) items
front_counted subrs glyphs zero items h = sym (no_counted subrs glyphs items h)
front_counted subrs glyphs (suc n) [] h = refl
front_counted subrs glyphs (suc n) (i ∷ items) h = ap (λ b. is_raised_counted subrs glyphs i && b) (front_counted subrs glyphs n items h)

pub sections_front : (front items : List Item) → front ≡ take (length front) items → list_any is_section (drop (length front) items) ≡ false → section_lines_text (filter stands_alone front) ≡ section_lines_text items
sections_front front items is none = sections_alone front ∙ ap section_lines_text is ∙ front_lines (length front) items none

pub raised_sections_front : (subrs glyphs : ℕ) (front items : List Item) → front ≡ take (length front) items → list_any is_section (drop (length front) items) ≡ false
    → raised_text subrs glyphs (filter stands_alone front) ≡ raised_text subrs glyphs items
raised_sections_front subrs glyphs front items is none = raised_alone subrs glyphs front ∙ ap (raised_text subrs glyphs) is ∙ front_raised subrs glyphs (length front) items none

pub check_front : (subrs glyphs : ℕ) (front items : List Item) → front ≡ take (length front) items → list_any is_section (drop (length front) items) ≡ false → raised_check subrs glyphs front ≡ raised_check subrs glyphs items
check_front subrs glyphs front items is none =
    ap (λ b. cond b (Ok tt) (Err (fault_at Nowhere F23))) (ap (list_all (is_raised_counted subrs glyphs)) is ∙ front_counted subrs glyphs (length front) items none)

-- ---- counts for which nothing is needed

-- they stay as they are
unraised : (i : Item) → raised_item 0 0 i ≡ i
unraised (Plain l) = refl
unraised (Section before n after) = ap (λ count. Section before count after) (by (is_glyphs_line (Section before n after))) where
  by : (b : Bool) → max n (cond b 0 0) ≡ n
  by true = omega arith
  by false = omega arith
unraised (Subr n ws closing) = refl
unraised (Glyph g ws closing) = refl

unraised-counted : (items : List Item) → list_all (is_raised_counted 0 0) items ≡ list_all is_counted items
unraised-counted [] = refl
unraised-counted (i ∷ items) = ap (λ b. b && list_all (is_raised_counted 0 0) items) (ap is_counted (unraised i)) ∙ ap (λ b. is_counted i && b) (unraised-counted items)

pub check_unraised : (items : List Item) → raised_check 0 0 items ≡ counts_check items
check_unraised items = ap (λ b. cond b (Ok tt) (Err (fault_at Nowhere F23))) (unraised-counted items)
