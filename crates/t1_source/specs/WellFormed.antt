-- What is true of every source that was read or edited.
use Rattle.std.specs.Prelude.{◌≡◌, ◌⊎◌, ℕ, Bool, true, false, not, ◌+◌, ◌≤◌, ◌^◌, ◌&&◌, nat_lt, if◌then◌else◌, None, Some, Ok, is_some, List, [], ◌∷◌, ◌++◌, length, take, filter_map}
use Rattle.std.specs.List.{list_all, list_any, position_or_len}
use Rattle.t1_frac.specs.Ascii.{digit_zero}
use Rattle.t1_parts.specs.declared.item.Item.{Item}
use Rattle.t1_parts.specs.declared.item.Item.TheVariants.{Plain, Section, Subr, Glyph}
use Rattle.t1_parts.specs.SourceParts.{SourceParts}
use Rattle.t1_text.specs.Lines.{is_line, trimmed}
use Rattle.t1_text.specs.Tokens.{tokens}
use Rattle.t1_text.specs.Names.{is_name}
use Rattle.t1_parts.specs.Encoding.{clear_check}
use Rattle.t1_parts.specs.Sections.{subrs_line, glyphs_line, is_subrs_line, is_glyphs_line}
use Rattle.t1_parts.specs.Entries.{is_word, is_subr, is_glyph, opens_subr, opens_glyph}
use Rattle.t1_parts.specs.Parts.{is_eexec, is_closefile, tail_of}
use Rattle.t1_parts.specs.LenIV.{said_lead, lead_of_token}
use Rattle.t1_parts.specs.Counts.{raised}
use Rattle.t1_parts.specs.Printing.{last_line}

-- profile, parts: a line of the private part before the closefile line
abbrev pub is_inner : List ℕ → Bool
is_inner l = is_line l && not (is_closefile l)

-- profile, entries: whether a line opens an entry after these items
abbrev pub opens_entry : List Item → List ℕ → Bool
opens_entry earlier l =
    if list_any is_glyphs_line earlier then is_some (opens_glyph (tokens l))
    else list_any is_subrs_line earlier && is_some (opens_subr (tokens l))

-- profile, sections: the line is this section line alone, after none of its kind or of a later kind
abbrev pub IsSectionLine : List Item → Item → List ℕ → Type 0
IsSectionLine earlier section l =
    (list_any is_glyphs_line earlier ≡ false)
    × ((subrs_line l ≡ Some section) × (glyphs_line l ≡ None) × (list_any is_subrs_line earlier ≡ false) ⊎ (subrs_line l ≡ None) × (glyphs_line l ≡ Some section))

-- profile, entries: words, and a closing text without blanks at its ends, whose line isn't the closefile line
abbrev pub IsEntry : List (List ℕ) → List ℕ → Type 0
IsEntry ws closing =
    (list_all is_word ws ≡ true) × (list_all is_line ws ≡ true) × (trimmed closing ≡ closing) × (is_inner (last_line closing) ≡ true)

-- profile, private part: what may stand after these items. A section line counts as one by whatever count it has, and
-- so by the count 0
abbrev pub Stands : List Item → Item → Type 0
Stands earlier (Plain l) =
    (is_inner l ≡ true) × (opens_entry earlier l ≡ false) × (subrs_line l ≡ None) × (glyphs_line l ≡ None)
Stands earlier (Section before n after) =
    (is_inner (before ++ digit_zero ∷ after) ≡ true)
    × (opens_entry earlier (before ++ digit_zero ∷ after) ≡ false)
    × IsSectionLine earlier (Section before 0 after) (before ++ digit_zero ∷ after)
Stands earlier (Subr n ws closing) =
    (list_any is_glyphs_line earlier ≡ false)
    × (list_any is_subrs_line earlier ≡ true)
    × (list_any (is_subr n) earlier ≡ false)
    × (n ≤ 32000)
    × IsEntry ws closing
Stands earlier (Glyph g ws closing) =
    (list_any is_glyphs_line earlier ≡ true)
    × (list_any (is_glyph g) earlier ≡ false)
    × (is_name g ≡ true)
    × IsEntry ws closing

-- profile, private part: each item stands after these and after those before it
abbrev pub Stand : List Item → List Item → Type 0
Stand earlier [] = Unit {0}
Stand earlier (i ∷ items) = Stands earlier i × Stand (earlier ++ i ∷ []) items

-- profile, parts: a clear part without faults, whose last line is its first eexec line
abbrev pub IsClear : List (List ℕ) → Type 0
IsClear clear = (list_all is_line clear ≡ true) × (position_or_len is_eexec clear + 1 ≡ length clear) × (clear_check clear ≡ Ok tt)

-- profile, lenIV: whether the first plain line that says lenIV says a number from 0 to 64
abbrev pub says_lead_well : List Item → Bool
says_lead_well items = list_all (λ t. is_some (lead_of_token t)) (take 1 (filter_map said_lead items))

-- profile, private part: items and the closefile line, with a CharStrings line and with counts that are raised
pub record IsPrivate (items : List Item) : Type 0 where
  pub inner : List Item
  pub closefile : List ℕ
  pub whole : items ≡ inner ++ Plain closefile ∷ []
  pub stand : Stand [] inner
  pub line : is_line closefile ≡ true
  pub last : is_closefile closefile ≡ true
  pub section : list_any is_glyphs_line items ≡ true
  pub lead : says_lead_well items ≡ true
  pub counts : raised items ≡ items

-- profile, sources: what is true of every source that was read or edited
pub record IsWellFormed (s : SourceParts) : Type 0 where
  pub clear : IsClear s.clear
  pub items : IsPrivate s.items
  pub lines : list_all is_line s.tail ≡ true
  pub tail : tail_of s.tail ≡ s.tail

-- profile, sections: whether the count of a section line has at most nine digits
abbrev pub is_counted : Item → Bool
is_counted (Section before n after) = nat_lt n (10 ^ 9)
is_counted (Plain l) = true
is_counted (Subr n ws closing) = true
is_counted (Glyph g ws closing) = true
