-- Items without the plain lines that say nothing of lenIV.
use Rattle.std.proofs.Common.{◌≡◌, ℕ, cond, List, [], ◌∷◌, ◌++◌, filter, inl, inr, refl, ap, Ok, Err}
use Rattle.std.specs.Prelude.{◌&&◌}
use Rattle.std.specs.List.{list_all}
use Rattle.std.specs.Option.{option_or}
use Rattle.std.proofs.lemmas.Bool.{cases_Bool}
use Rattle.t1_frac.specs.declared.fault.Code.TheVariants.{F23}
use Rattle.t1_frac.specs.declared.fault.Place.TheVariants.{Nowhere}
use Rattle.t1_frac.specs.Outcome.{fault_at, ◌>>=◌}
use Rattle.t1_parts.specs.declared.item.Item.{Item}
use Rattle.t1_parts.specs.declared.item.Item.TheVariants.{Plain, Section, Subr, Glyph}
use Rattle.t1_parts.specs.Counts.{raised_item}
use Rattle.t1_parts.specs.Stretches.{line_says, stands_alone}
use Rattle.t1_font.specs.Bodies.{bodies_check, body_check, glyph_among, glyph_in, subr_among, subr_in}
use Rattle.t1_charstrings.specs.Raising.{is_raised_counted, raised_check, raised_text}
use Rattle.t1_charstrings.specs.Sums.{section_line, section_lines_text}

-- ---- section lines

pub sections_alone : (items : List Item) → section_lines_text (filter stands_alone items) ≡ section_lines_text items
unfolding stands_alone
sections_alone [] = refl
sections_alone (Plain l ∷ items) = elim (cases_Bool (line_says l)) [
  | inl says ↦ rw says (sections_alone items)
  | inr silent ↦ rw silent (sections_alone items)
]
sections_alone (Section before n after ∷ items) = ap (λ t. section_line (Section before n after) ++ t) (sections_alone items)
sections_alone (Subr n ws closing ∷ items) = sections_alone items
sections_alone (Glyph g ws closing ∷ items) = sections_alone items

pub raised_alone : (subrs glyphs : ℕ) (items : List Item) → raised_text subrs glyphs (filter stands_alone items) ≡ raised_text subrs glyphs items
unfolding stands_alone
raised_alone subrs glyphs [] = refl
raised_alone subrs glyphs (Plain l ∷ items) = elim (cases_Bool (line_says l)) [
  | inl says ↦ rw says (raised_alone subrs glyphs items)
  | inr silent ↦ rw silent (raised_alone subrs glyphs items)
]
raised_alone subrs glyphs (Section before n after ∷ items) =
    ap (λ t. section_line (raised_item subrs glyphs (Section before n after)) ++ t) (raised_alone subrs glyphs items)
raised_alone subrs glyphs (Subr n ws closing ∷ items) = raised_alone subrs glyphs items
raised_alone subrs glyphs (Glyph g ws closing ∷ items) = raised_alone subrs glyphs items

counted-alone : (subrs glyphs : ℕ) (items : List Item)
    → list_all (is_raised_counted subrs glyphs) (filter stands_alone items) ≡ list_all (is_raised_counted subrs glyphs) items
unfolding stands_alone
counted-alone subrs glyphs [] = refl
counted-alone subrs glyphs (Plain l ∷ items) = elim (cases_Bool (line_says l)) [
  | inl says ↦ rw says (counted-alone subrs glyphs items)
  | inr silent ↦ rw silent (counted-alone subrs glyphs items)
]
counted-alone subrs glyphs (Section before n after ∷ items) =
    ap (λ b. is_raised_counted subrs glyphs (Section before n after) && b) (counted-alone subrs glyphs items)
counted-alone subrs glyphs (Subr n ws closing ∷ items) = counted-alone subrs glyphs items
counted-alone subrs glyphs (Glyph g ws closing ∷ items) = counted-alone subrs glyphs items

pub check_alone : (subrs glyphs : ℕ) (items : List Item) → raised_check subrs glyphs (filter stands_alone items) ≡ raised_check subrs glyphs items
check_alone subrs glyphs items = ap (λ b. cond b (Ok tt) (Err (fault_at Nowhere F23))) (counted-alone subrs glyphs items)

-- ---- bodies

pub bodies_alone : (items : List Item) → bodies_check (filter stands_alone items) ≡ bodies_check items
unfolding stands_alone
bodies_alone [] = refl
bodies_alone (Plain l ∷ items) = elim (cases_Bool (line_says l)) [
  | inl says ↦ rw says (bodies_alone items)
  | inr silent ↦ rw silent (bodies_alone items)
]
bodies_alone (Section before n after ∷ items) = bodies_alone items
bodies_alone (Subr n ws closing ∷ items) = ap (λ r. body_check (Subr n ws closing) >>= λ _. r) (bodies_alone items)
bodies_alone (Glyph g ws closing ∷ items) = ap (λ r. body_check (Glyph g ws closing) >>= λ _. r) (bodies_alone items)

pub subr_alone : (n : ℕ) (items : List Item) → subr_among (filter stands_alone items) n ≡ subr_among items n
unfolding stands_alone
subr_alone n [] = refl
subr_alone n (Plain l ∷ items) = elim (cases_Bool (line_says l)) [
  | inl says ↦ rw says (subr_alone n items)
  | inr silent ↦ rw silent (subr_alone n items)
]
subr_alone n (Section before k after ∷ items) = subr_alone n items
subr_alone n (Subr k ws closing ∷ items) = ap (option_or (subr_in (Subr k ws closing) n)) (subr_alone n items)
subr_alone n (Glyph g ws closing ∷ items) = subr_alone n items

pub glyph_alone : (f : List ℕ) (items : List Item) → glyph_among (filter stands_alone items) f ≡ glyph_among items f
unfolding stands_alone
glyph_alone f [] = refl
glyph_alone f (Plain l ∷ items) = elim (cases_Bool (line_says l)) [
  | inl says ↦ rw says (glyph_alone f items)
  | inr silent ↦ rw silent (glyph_alone f items)
]
glyph_alone f (Section before k after ∷ items) = glyph_alone f items
glyph_alone f (Subr k ws closing ∷ items) = glyph_alone f items
glyph_alone f (Glyph g ws closing ∷ items) = ap (option_or (glyph_in (Glyph g ws closing) f)) (glyph_alone f items)

-- ---- lenIV
