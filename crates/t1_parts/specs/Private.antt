-- The items of a private part.
use Rattle.std.specs.Prelude.{ℕ, zero, suc, ◌+◌, ◌-◌, ◌||◌, if◌then◌else◌, Option, Some, None, Result, Ok, Err, List, [], ◌∷◌, ◌++◌, length, take, drop, map}
use Rattle.t1_frac.specs.declared.fault.Code.{Code}
use Rattle.t1_frac.specs.declared.fault.Code.TheVariants.{F4}
use Rattle.t1_frac.specs.declared.fault.Fault.{Fault}
use Rattle.t1_frac.specs.declared.fault.Place.TheVariants.{Line}
use Rattle.t1_frac.specs.Outcome.{reported_at, ◌>>=◌}
use Rattle.t1_parts.specs.declared.item.Item.{Item}
use Rattle.t1_parts.specs.declared.item.Item.TheVariants.{Plain}
use Rattle.t1_text.specs.Tokens.{tokens}
use Rattle.t1_parts.specs.Sections.{subrs_line, glyphs_line, is_subrs_line, is_glyphs_line}
use Rattle.t1_parts.specs.Entries.{Taken, NumberedItem, has_numbered, opens_subr, opens_glyph, opened_body, subr_entry, glyph_entry}

-- profile, sections: a plain line, or a section line where none of its kind or a later kind came before
unfoldable pub line_item : List NumberedItem → List ℕ → Option Item → Option Item → Result Taken Code
line_item earlier l None None = Ok (Plain l, 0)
line_item earlier l (Some s) None = if has_numbered is_subrs_line earlier || has_numbered is_glyphs_line earlier then Err F4 else Ok (s, 0)
line_item earlier l None (Some s) = if has_numbered is_glyphs_line earlier then Err F4 else Ok (s, 0)
line_item earlier l (Some s) (Some t) = Err F4

-- profile, sections: the section or the plain line
abbrev pub line_read : List NumberedItem → List ℕ → Result Taken Code
line_read earlier l = line_item earlier l (subrs_line l) (glyphs_line l)

-- profile, entries: the Subr entry that these lines open, or the line
abbrev pub among_subrs : List NumberedItem → List ℕ → List (List ℕ) → Option (List ℕ) → Result Taken Code
among_subrs earlier l ls (Some t) = subr_entry earlier t (opened_body l ls)
among_subrs earlier l ls None = line_read earlier l

-- profile, entries: the glyph entry that these lines open, or the line
abbrev pub among_glyphs : List NumberedItem → List ℕ → List (List ℕ) → Option (List ℕ) → Result Taken Code
among_glyphs earlier l ls (Some t) = glyph_entry earlier t (opened_body l ls)
among_glyphs earlier l ls None = line_read earlier l

-- profile, entries: the item at the front of these lines, after the earlier items
unfoldable pub item_in_front : List NumberedItem → List ℕ → List (List ℕ) → Result Taken Code
item_in_front earlier l ls =
    if has_numbered is_glyphs_line earlier then among_glyphs earlier l ls (opens_glyph (tokens l))
    else if has_numbered is_subrs_line earlier then among_subrs earlier l ls (opens_subr (tokens l))
    else line_read earlier l

-- profile, private part: the earlier items and those of these lines, of which the first has number n; so many lines at the
-- front belong to the last of the earlier items
abbrev pub items_after : List NumberedItem → ℕ → ℕ → List (List ℕ) → Result (List NumberedItem) Fault
items_after earlier n more [] = Ok earlier
items_after earlier n (suc more) (l ∷ ls) = items_after earlier (n + 1) more ls
items_after earlier n zero (l ∷ ls) = reported_at (Line n) (item_in_front earlier l ls) >>= λ taken. items_after (earlier ++ (n, taken.0) ∷ []) (n + 1) taken.1 ls

-- profile, private part: the items of these lines, of which the first has number n, or the first fault
abbrev pub items_of : ℕ → List (List ℕ) → Result (List NumberedItem) Fault
items_of n ls = items_after [] n 0 ls

-- profile, private part: the closefile line opens nothing, and no entry goes past it
unfoldable pub private_items : ℕ → List (List ℕ) → Result (List NumberedItem) Fault
private_items n ls = do
  items ← items_of n (take (length ls - 1) ls)
  Ok (items ++ map (λ l. (n + (length ls - 1), Plain l)) (drop (length ls - 1) ls))
