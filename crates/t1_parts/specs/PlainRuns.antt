-- Plain lines that are read together.
use Rattle.std.specs.Prelude.{◌≡◌, ℕ, Bool, false, is_some, if◌then◌else◌, Result, Ok, List, [], ◌∷◌}
use Rattle.t1_frac.specs.declared.fault.Fault.{Fault}
use Rattle.t1_text.specs.Tokens.{tokens}
use Rattle.t1_parts.specs.declared.item.Item.TheVariants.{Plain}
use Rattle.t1_parts.specs.Entries.{NumberedItem, has_numbered, opens_subr, opens_glyph}
use Rattle.t1_parts.specs.Stretches.{line_says}
use Rattle.t1_parts.specs.Private.{item_in_front, items_after}
use Rattle.t1_parts.specs.Sections.{is_subrs_line, is_glyphs_line}

-- word, private part: the earlier items and those of these lines, of which the first has number n and belongs to none of
-- the earlier items
abbrev pub read_from : List NumberedItem → ℕ → List (List ℕ) → Result (List NumberedItem) Fault
read_from earlier n ls = items_after earlier n 0 ls

-- word, entries: whether a line opens an entry, where a Subrs line or a CharStrings line came before
abbrev pub may_open_entry : Bool → Bool → List ℕ → Bool
may_open_entry subrs glyphs l =
    if glyphs then is_some (opens_glyph (tokens l)) else if subrs then is_some (opens_subr (tokens l)) else false

-- word, private part: a line is a plain one, where such section lines came before, and says nothing of lenIV
abbrev pub IsPlainAmong : Bool → Bool → List ℕ → Type 0
IsPlainAmong subrs glyphs l =
    (line_says l ≡ false)
    × ((earlier : List NumberedItem) (ls : List (List ℕ)) → has_numbered is_subrs_line earlier ≡ subrs → has_numbered is_glyphs_line earlier ≡ glyphs → item_in_front earlier l ls ≡ Ok (Plain l, 0))

-- word, private part: so is each of the lines
abbrev pub AreAmong : Bool → Bool → List (List ℕ) → Type 0
AreAmong subrs glyphs [] = Unit {0}
AreAmong subrs glyphs (l ∷ ls) = IsPlainAmong subrs glyphs l × AreAmong subrs glyphs ls
